-- What is read of a conditions text is what its text says.
use Rattle.std.proofs.Common.{◌≡◌, ℕ, nat_lt, Bool, true, false, List, [], ◌∷◌, ◌++◌, length, map, Ok, refl, ap, sym, ◌∙◌, subst}
use Rattle.std.specs.Prelude.{nat_eq, codes, ◌&&◌}
use Rattle.std.specs.List.{starts_with}
use Rattle.std.proofs.lemmas.Bool.{cond_both, and_parts}
use Rattle.std.proofs.lemmas.List.{append-nil}
use Rattle.texts.specs.Surface.{Parameter}
use Rattle.launch_text.specs.LaunchFaults.{LimitPassed, Cursor, cursor, then, sees, past, expect, end_line}
use Rattle.launch_text.specs.LaunchWords.{Conditions, due, end_text}
use Rattle.launch_text.specs.HeadReading.{Head, head_at, past_head}
use Rattle.launch_text.specs.ConditionsReading.{Lined, meant, argument_meant, length_meant, requirement_meant, content_meant, groups_line, argument_lines, length_lines, requirement_lines, content_lines, budget_at, lined, version_at, numbered_line, headed_line, is_headed, version_line, is_third, conditions_at, conditions_limit, conditions_of}
use Rattle.launch_text.specs.ConditionsText.{groups_text, AreArgumentLines, AreLengthLines, AreRequirementLines, AreContentLines, head_text, IsHead, IsOpening, one, two, three, is_three, IsBudget, given, greatest, AreConditionsLines, IsConditionsText}
use Rattle.lines.proofs.Fronts.{begins}
use Rattle.launch_text.proofs.Back.{then_back, same_back, unless_back}
use Rattle.launch_text.proofs.Taken.{expect_took, end_took, due_took, end_text_took}
use Rattle.launch_text.proofs.HeadTaken.{head_took}
use Rattle.launch_text.proofs.LinesTaken.{groups_meant, groups_took, arguments_took, lengths_took, requirements_took, contents_took, greatest_of, last_took, AreFew, not_above}

-- a version behind its keyword
abbrev version_mark : (products : Bool) → List ℕ
version_mark true = codes " 2"
version_mark false = codes " 1"

abbrev TookVersion : (may_be_two : Bool) → Cursor → Bool × Cursor → Type 0
TookVersion may c t = (t.0 ≡ true → may ≡ true) × (c.rest ≡ version_mark t.0 ++ t.1.rest)

one_is_not_two : {A : Type 0} → false ≡ true → A
one_is_not_two e = absurd cc

version_took : (may : Bool) (c : Cursor) (t : Bool × Cursor) → version_at may c ≡ Ok t → TookVersion may c t
unfolding version_at
version_took may c t =
    cond_both (may && sees (codes " 2") c) (Ok (true, past 2 c)) (then (expect (codes " 1") c) (λ d. Ok (false, d))) (λ s. s ≡ Ok t → TookVersion may c t)
    (λ h e. let p = and_parts may (sees (codes " 2") c) h in
    subst (λ (r : Bool × Cursor). TookVersion may c r) (same_back (true, past 2 c) t e) (λ _. p.0, begins c.rest (codes " 2") p.1))
    (λ h e. let d = then_back (expect (codes " 1") c) _ t e in
    subst (λ (r : Bool × Cursor). TookVersion may c r) (same_back (false, d.0) t d.2) (λ f. one_is_not_two f, expect_took (codes " 1") c d.0 d.1))

-- the first line of a text of version 1 or 2, in front of the others
abbrev first_text : (products : Bool) → List ℕ
first_text true = codes "conditions 2\n"
first_text false = codes "conditions 1\n"

first_opens : (products : Bool) → IsOpening products (first_text products)
first_opens true = two
first_opens false = one

first_joined : (products : Bool) (all head rest : List ℕ) → all ≡ codes "conditions" ++ head → head ≡ version_mark products ++ (10 ∷ rest) → all ≡ first_text products ++ rest
first_joined true all head rest e f = e ∙ ap (λ x. codes "conditions" ++ x) f
first_joined false all head rest e f = e ∙ ap (λ x. codes "conditions" ++ x) f

abbrev TookNumbered : (may_be_two : Bool) → Cursor → Bool × Cursor → Type 0
TookNumbered may c t = (t.0 ≡ true → may ≡ true) × (c.rest ≡ version_mark t.0 ++ (10 ∷ t.1.rest))

numbered_took : (may : Bool) (c : Cursor) (t : Bool × Cursor) → numbered_line may c ≡ Ok t → TookNumbered may c t
unfolding numbered_line
numbered_took may c t e =
    let v = then_back (version_at may c) _ t e in
    let d = then_back (end_line v.0.1) _ t v.2 in
    let mark = version_took may c v.0 v.1 in
    subst (λ (r : Bool × Cursor). TookNumbered may c r) (same_back (v.0.0, d.0) t d.2)
    (mark.0, mark.1 ∙ ap (λ x. version_mark v.0.0 ++ x) (end_took v.0.1 d.0 d.1))

-- what stands behind the mark of version 3
abbrev TookHeaded : Cursor → Bool × Cursor → Type 0
TookHeaded c t = (h : Head) × IsHead h × (t.0 ≡ true) × (c.rest ≡ 10 ∷ (head_text h ++ t.1.rest))

headed_took : (c : Cursor) (t : Bool × Cursor) → headed_line c ≡ Ok t → TookHeaded c t
unfolding headed_line
headed_took c t e =
    let d = then_back (end_line c) _ t e in
    let p = then_back (past_head d.0) _ t d.2 in
    let h = then_back (head_at d.0) _ p.0 p.1 in
    let took = head_took d.0 h.0 h.1 in
    subst (λ (r : Bool × Cursor). TookHeaded c r) (same_back (true, p.0) t p.2)
    (h.0.0, took.1, refl, end_took c d.0 d.1 ∙ ap (λ x. 10 ∷ x) (took.0 ∙ ap (λ (u : Cursor). head_text h.0.0 ++ u.rest) (same_back h.0.1 p.0 h.2)))

behind_lengths : (requires contents budget r4 r5 r6 r7 : List ℕ) → r4 ≡ requires ++ r5 → r5 ≡ contents ++ r6 → r6 ≡ budget ++ r7 → r7 ≡ [] → r4 ≡ requires ++ (contents ++ budget)
behind_lengths requires contents budget r4 r5 r6 r7 e f g h =
    e ∙ ap (λ x. requires ++ x) (f ∙ ap (λ x. contents ++ x) (g ∙ ap (λ x. budget ++ x) h ∙ append-nil budget))

whole : (opening all groups arguments lengths behind r1 r2 r3 r4 : List ℕ) → all ≡ opening ++ r1 → r1 ≡ groups ++ r2 → r2 ≡ arguments ++ r3 → r3 ≡ lengths ++ r4 → r4 ≡ behind
    → all ≡ opening ++ (groups ++ (arguments ++ (lengths ++ behind)))
whole opening all groups arguments lengths behind r1 r2 r3 r4 a b c d e =
    a ∙ ap (λ x. opening ++ x) (b ∙ ap (λ x. groups ++ x) (c ∙ ap (λ x. arguments ++ x) (d ∙ ap (λ x. lengths ++ x) e)))

-- a text of version 3 opens with its head
three_opening : (products : Bool) → products ≡ true → (h : Head) → IsHead h → IsOpening products (codes "conditions 3\n" ++ head_text h)
three_opening true e h is = three h is
three_opening false e h is = absurd cc

three_opens : (products : Bool) (e : products ≡ true) (h : Head) (is : IsHead h) → is_three (three_opening products e h is) ≡ true
unfolding three_opening
three_opens true e h is = refl
three_opens false e h is = absurd cc

third_headed : (may : Bool) (c a : Cursor) → c.rest ≡ codes "conditions" ++ a.rest → is_third may c ≡ is_headed may a
third_headed may c a e = ap (λ bytes. may && starts_with nat_eq bytes (codes "conditions 3")) e

-- how the text opened
record TookOpening (may_be_two : Bool) (c : Cursor) (t : Bool × Cursor) : Type 0 where
  pub opening : List ℕ
  pub opens : IsOpening t.0 opening
  pub may_have : t.0 ≡ true → may_be_two ≡ true
  pub rest : c.rest ≡ opening ++ t.1.rest
  pub third : is_third may_be_two c ≡ true → is_three opens ≡ true

opening_took : (may : Bool) (c : Cursor) (t : Bool × Cursor) → version_line may c ≡ Ok t → TookOpening may c t
unfolding version_line
opening_took may c t e =
    let a = then_back (due _ _ c) _ t e in
    let word = due_took Conditions (codes "conditions") c a.0 a.1 in
    cond_both (is_headed may a.0) (headed_line (past 2 a.0)) (numbered_line may a.0) (λ s. s ≡ Ok t → TookOpening may c t)
    (λ h f. let p = and_parts may (sees (codes " 3") a.0) h in
    let own = headed_took (past 2 a.0) t f in
    record {
      opening = codes "conditions 3\n" ++ head_text own.0;
      opens = three_opening t.0 own.2 own.0 own.1;
      may_have = λ _. p.0;
      rest = word ∙ ap (λ x. codes "conditions" ++ x) (begins a.0.rest (codes " 3") p.1 ∙ ap (λ x. codes " 3" ++ x) own.3);
      third = λ _. three_opens t.0 own.2 own.0 own.1;
    })
    (λ h f. let own = numbered_took may a.0 t f in
    record {
      opening = first_text t.0;
      opens = first_opens t.0;
      may_have = own.0;
      rest = first_joined t.0 c.rest a.0.rest t.1.rest word own.1;
      third = λ so. one_is_not_two (sym (third_headed may c a.0 word ∙ h) ∙ so);
    }) a.2

-- what may be left out where a text is read as one of version 3 may be where it is one
budget_of : (p q : Bool) (line : List ℕ) (n : ℕ) → (p ≡ true → q ≡ true) → IsBudget p line n → IsBudget q line n
budget_of p q line n f (given m a b) = given m a b
budget_of p q line n f greatest = greatest_of q (f refl)

lines_took : (may : Bool) (ps : List Parameter) (c : Cursor) (x : Lined) → conditions_at may ps c ≡ Ok x → (products : Bool) × (products ≡ true → may ≡ true) × AreConditionsLines products ps c.rest (meant x)
unfolding conditions_at
lines_took may ps c x e =
    let version = then_back (version_line may c) _ x e in
    let products = version.0.0 in
    let head = version.0.1 in
    let groups = then_back (groups_line head) _ x version.2 in
    let arguments = then_back (argument_lines ps groups.0.1) _ x groups.2 in
    let lengths = then_back (length_lines products ps arguments.0.1) _ x arguments.2 in
    let requires = then_back (requirement_lines products ps lengths.0.1) _ x lengths.2 in
    let contents = then_back (content_lines products ps requires.0.1) _ x requires.2 in
    let budget = then_back (budget_at (is_third may c) contents.0.1) _ x contents.2 in
    let end = then_back (end_text budget.0.1) _ x budget.2 in
    let g = groups_took head groups.0 groups.1 in
    let a = arguments_took ps [] ps groups.0.1 arguments.0 arguments.1 in
    let l = lengths_took products ps [] ps arguments.0.1 lengths.0 lengths.1 in
    let r = requirements_took products ps lengths.0.1 requires.0 requires.1 in
    let h = contents_took products ps requires.0.1 contents.0 contents.1 in
    let b = last_took (is_third may c) contents.0.1 budget.0 budget.1 in
    let few = subst (λ rs. AreFew (AreRequirementLines products ps) 16 r.lines (map requirement_meant rs)) (sym r.all) r.are in
    let held = subst (λ xs. AreFew (AreContentLines products ps) 16 h.lines (map content_meant xs)) (sym h.all) h.are in
    let first = opening_took may c version.0 version.1 in
    let last = behind_lengths r.lines h.lines b.line lengths.0.1.rest requires.0.1.rest contents.0.1.rest budget.0.1.rest r.rest h.rest b.rest (end_text_took budget.0.1 end.0 end.1) in (
      products,
      first.may_have,
      subst (λ (y : Lined). AreConditionsLines products ps c.rest (meant y)) (same_back (lined groups.0.0 head.line arguments.0.0 lengths.0.0 requires.0.0 contents.0.0 budget.0.0) x end.2) (record {
        opening = first.opening;
        argument_lines = a.lines;
        length_lines = l.lines;
        requirement_lines = r.lines;
        content_lines = h.lines;
        budget_line = b.line;
        is_text = whole first.opening c.rest (groups_text (groups_meant groups.0.0)) a.lines l.lines (r.lines ++ (h.lines ++ b.line)) head.rest groups.0.1.rest arguments.0.1.rest lengths.0.1.rest first.rest g.rest a.rest l.rest last;
        opens = first.opens;
        counts_x = g.counts.x;
        counts_y = g.counts.y;
        counts_z = g.counts.z;
        few_groups = g.few;
        arguments = subst (λ rs. AreArgumentLines ps a.lines (map argument_meant rs)) (sym a.all) a.are;
        lengths = subst (λ ls. AreLengthLines products ps ps l.lines (map length_meant ls)) (sym l.all) l.are;
        requires = few.0;
        few_requires = few.1;
        contents = held.0;
        few_contents = held.1;
        budget = budget_of (is_third may c) (is_three first.opens) b.line budget.0.0 first.third b.is_budget;
      }),
    )

pub conditions_took : (may : Bool) (ps : List Parameter) (text : List ℕ) (x : Lined) → conditions_of may ps text ≡ Ok x → IsConditionsText may ps text (meant x)
conditions_took may ps text x e =
    let h = unless_back (nat_lt conditions_limit (length text)) (conditions_at may ps (cursor 1 text)) LimitPassed (cursor 1 text) x e in
    let l = lines_took may ps (cursor 1 text) x h.1 in
    record { has_products = l.0; may_have = l.1; lines = l.2; within_limit = not_above conditions_limit (length text) h.0 }
