-- What a line's reader took from the front is that line.
use Rattle.std.proofs.Common.{◌≡◌, ℕ, zero, suc, ◌*◌, ◌≤◌, Bool, true, false, nat_le, nat_lt, List, [], ◌∷◌, ◌++◌, length, map, Option, Some, None, Ok, refl, ap, sym, ◌∙◌, subst, append_assoc, arith}
use Rattle.std.specs.Prelude.{◌&&◌, pos, ◌≤ℤ◌, ◌*ℤ◌, int_le, bytes_eq, codes}
use Rattle.std.specs.Fmt.{decimal, signed_decimal}
use Rattle.std.proofs.lemmas.Bool.{cond_both, and_parts}
use Rattle.std.proofs.lemmas.Bool.Decides.{nat_tests}
use Rattle.std.proofs.lemmas.Int.{ints}
use Rattle.std.proofs.lemmas.List.{append-nil}
use Rattle.semantics.specs.Word.{Kind, in_kind}
use Rattle.semantics.specs.Launch.{Three}
use Rattle.semantics.specs.Conditions.{Range}
use Rattle.texts.specs.Surface.{Parameter, Buffer, Value}
use Rattle.launch_text.specs.LaunchFaults.{Expected, UnknownName, LimitPassed, EmptyRange, Cursor, Step, refused, then, sees, past, expect, end_line}
use Rattle.launch_text.specs.LaunchWords.{Conditions, natural_at, word_at, name_at, is_known, due_blank, due_parameter, first_word, each, several}
use Rattle.launch_text.specs.LaunchSums.{sum_at, buffer_number, buffer_found, buffer_at}
use Rattle.launch_text.specs.ConditionsReading.{CountRange, ArgumentRange, Length, Requirement, ContentLine, counts_meant, argument_meant, length_meant, requirement_meant, content_meant, counts_between, counts_at, words_between, three_counts_at, three, groups_line, argument_at, argument_line, argument_due, length_of, length_line, length_due, requirement_of, requirement_line, requirement_lines, end_at, content_of, content_line, content_lines, budget_line, budget_at}
use Rattle.launch_text.specs.ConditionsText.{IsShortSum, range_text, AreCounts, AreOfKind, groups_text, argument_text, length_text, requirement_text, end_text, content_text, budget_text, AreArgumentLines, no_argument, past_buffer, an_argument, AreLengthLines, no_length, past_value, a_length, AreRequirementLines, no_requirement, a_requirement, AreContentLines, no_content, a_content, IsBudget, given, greatest}
use Rattle.lines.specs.Lines.{is_empty}
use Rattle.lines.proofs.Fronts.{begins}
use Rattle.launch.proofs.Unmet.{le-true}
use Rattle.launch_text.proofs.Back.{then_back, same_back, when_back, unless_back, natural_back, word_back}
use Rattle.launch_text.proofs.Taken.{expect_took, end_took, natural_took, word_took, name_took, due_blank_took, due_parameter_took}
use Rattle.launch_text.proofs.SumsTaken.{joined, short_sum_took}

counted : (low high : ℕ) → (1 ≤ low) × (low ≤ 65536) → (1 ≤ high) × (high ≤ 65536) → nat_le low high ≡ true → AreCounts (counts_meant (counts_between low high))
counted low high a b h = (grind (arith, ints, a), grind (arith, ints, nat_tests), grind (arith, ints, b))

abbrev TookCounts : Cursor → CountRange × Cursor → Type 0
TookCounts c t = (c.rest ≡ range_text (counts_meant t.0) ++ t.1.rest) × AreCounts (counts_meant t.0)

counts_took : (c : Cursor) (t : CountRange × Cursor) → counts_at c ≡ Ok t → TookCounts c t
unfolding counts_at
counts_took c t e =
    let low = then_back (natural_at 1 65536 c) _ t e in
    let d = then_back (expect _ low.0.1) _ t low.2 in
    let high = then_back (natural_at 1 65536 d.0) _ t d.2 in
    let order = when_back (nat_le low.0.0 high.0.0) _ EmptyRange high.0.1 t high.2 in
    subst (λ (r : CountRange × Cursor). TookCounts c r) (same_back (counts_between low.0.0 high.0.0, high.0.1) t order.1) (
      joined (codes "..") (decimal low.0.0) (decimal high.0.0) high.0.1.rest c.rest low.0.1.rest d.0.rest (natural_took 1 65536 c low.0 low.1) (expect_took (codes "..") low.0.1 d.0 d.1) (natural_took 1 65536 d.0 high.0 high.1),
      counted low.0.0 high.0.0 (natural_back 1 65536 c low.0 low.1) (natural_back 1 65536 d.0 high.0 high.1) order.0,
    )

abbrev pub groups_meant : Three CountRange → Three Range
groups_meant g = three (counts_meant g.x) (counts_meant g.y) (counts_meant g.z)

abbrev three_text : Three Range → List ℕ
three_text g = range_text g.x ++ (codes " " ++ (range_text g.y ++ (codes " " ++ range_text g.z)))

-- what is so of three ranges
pub record AreGroups (g : Three Range) : Type 0 where
  pub x : AreCounts g.x
  pub y : AreCounts g.y
  pub z : AreCounts g.z

abbrev TookThree : Cursor → Three CountRange × Cursor → Type 0
TookThree c t = (c.rest ≡ three_text (groups_meant t.0) ++ t.1.rest) × AreGroups (groups_meant t.0)

three_joined : (x y z rest whole a b d e : List ℕ) → whole ≡ x ++ a → a ≡ 32 ∷ b → b ≡ y ++ d → d ≡ 32 ∷ e → e ≡ z ++ rest → whole ≡ (x ++ (codes " " ++ (y ++ (codes " " ++ z)))) ++ rest
three_joined x y z rest whole a b d e p q r s t = joined (codes " ") x (y ++ (codes " " ++ z)) rest whole a b p q (joined (codes " ") y z rest b d e r s t)

three_took : (c : Cursor) (t : Three CountRange × Cursor) → three_counts_at c ≡ Ok t → TookThree c t
unfolding three_counts_at
three_took c t e =
    let x = then_back (counts_at c) _ t e in
    let d = then_back (expect _ x.0.1) _ t x.2 in
    let y = then_back (counts_at d.0) _ t d.2 in
    let f = then_back (expect _ y.0.1) _ t y.2 in
    let z = then_back (counts_at f.0) _ t f.2 in
    let a = counts_took c x.0 x.1 in
    let b = counts_took d.0 y.0 y.1 in
    let g = counts_took f.0 z.0 z.1 in
    subst (λ (r : Three CountRange × Cursor). TookThree c r) (same_back (three x.0.0 y.0.0 z.0.0, z.0.1) t z.2) (
      three_joined (range_text (counts_meant x.0.0)) (range_text (counts_meant y.0.0)) (range_text (counts_meant z.0.0)) z.0.1.rest c.rest x.0.1.rest d.0.rest y.0.1.rest f.0.rest a.0 (expect_took (codes " ") x.0.1 d.0 d.1) b.0 (expect_took (codes " ") y.0.1 f.0 f.1) g.0,
      record { x = a.1; y = b.1; z = g.1 },
    )

-- what the line of groups said
pub record TookGroups (c : Cursor) (t : Three CountRange × Cursor) : Type 0 where
  pub rest : c.rest ≡ groups_text (groups_meant t.0) ++ t.1.rest
  pub counts : AreGroups (groups_meant t.0)
  pub few : ((groups_meant t.0).x.high *ℤ (groups_meant t.0).y.high *ℤ (groups_meant t.0).z.high) ≤ℤ pos 1048576

pub groups_shape : (x y z rest : List ℕ) → codes "groups" ++ (32 ∷ ((x ++ (codes " " ++ (y ++ (codes " " ++ z)))) ++ (10 ∷ rest))) ≡ (codes "groups " ++ (x ++ (codes " " ++ (y ++ (codes " " ++ (z ++ 10 ∷ [])))))) ++ rest
groups_shape x y z rest = simp append_assoc

groups_whole : (g : Three Range) (rest whole a b : List ℕ) → whole ≡ codes "groups" ++ (32 ∷ a) → a ≡ three_text g ++ b → b ≡ 10 ∷ rest → whole ≡ groups_text g ++ rest
groups_whole g rest whole a b p q r =
    p ∙ ap (λ x. codes "groups " ++ x) (q ∙ ap (λ x. three_text g ++ x) r) ∙ groups_shape (range_text g.x) (range_text g.y) (range_text g.z) rest

not_more : (n most : ℕ) → nat_lt most n ≡ false → pos n ≤ℤ pos most
not_more n most h = grind (arith, ints, nat_tests)

pub groups_took : (c : Cursor) (t : Three CountRange × Cursor) → groups_line c ≡ Ok t → TookGroups c t
unfolding groups_line
groups_took c t e =
    let a = then_back (due_blank _ _ c) _ t e in
    let b = then_back (three_counts_at a.0) _ t a.2 in
    let f = unless_back (nat_lt 1048576 (b.0.0.x.high * b.0.0.y.high * b.0.0.z.high)) _ LimitPassed b.0.1 t b.2 in
    let d = then_back (end_line b.0.1) _ t f.1 in
    let g = three_took a.0 b.0 b.1 in
    subst (λ (r : Three CountRange × Cursor). TookGroups c r) (same_back (b.0.0, d.0) t d.2) (record {
      rest = groups_whole (groups_meant b.0.0) d.0.rest c.rest a.0.rest b.0.1.rest (due_blank_took Conditions (codes "groups") c a.0 a.1) g.0 (end_took b.0.1 d.0 d.1);
      counts = g.1;
      few = not_more (b.0.0.x.high * b.0.0.y.high * b.0.0.z.high) 1048576 f.0;
    })

ranged : (k : Kind) (r : ArgumentRange) → in_kind k r.low.value ≡ true → in_kind k r.high.value ≡ true → int_le r.low.value r.high.value ≡ true → AreOfKind k (argument_meant r)
ranged k r a b h = (a, b, le-true r.low.value r.high.value h)

abbrev TookRange : Kind → Cursor → ArgumentRange × Cursor → Type 0
TookRange k c t = (c.rest ≡ range_text (argument_meant t.0) ++ t.1.rest) × AreOfKind k (argument_meant t.0)

range_took : (k : Kind) (c : Cursor) (t : ArgumentRange × Cursor) → argument_at k c ≡ Ok t → TookRange k c t
unfolding argument_at
range_took k c t e =
    let low = then_back (word_at k c) _ t e in
    let d = then_back (expect _ low.0.1) _ t low.2 in
    let high = then_back (word_at k d.0) _ t d.2 in
    let order = when_back (int_le low.0.0.value high.0.0.value) _ EmptyRange high.0.1 t high.2 in
    let r : ArgumentRange = words_between low.0.0 high.0.0 c.line in
    subst (λ (u : ArgumentRange × Cursor). TookRange k c u) (same_back (r, high.0.1) t order.1) (
      joined (codes "..") (signed_decimal low.0.0.value) (signed_decimal high.0.0.value) high.0.1.rest c.rest low.0.1.rest d.0.rest (word_took k c low.0 low.1) (expect_took (codes "..") low.0.1 d.0 d.1) (word_took k d.0 high.0 high.1),
      ranged k r (word_back k c low.0 low.1).1 (word_back k d.0 high.0 high.1).1 order.0,
    )

abbrev TookArgument : Kind → (name : List ℕ) → Cursor → ArgumentRange × Cursor → Type 0
TookArgument k name c t = (c.rest ≡ argument_text name (argument_meant t.0) ++ t.1.rest) × AreOfKind k (argument_meant t.0)

pub argument_shape : (name range rest : List ℕ) → codes "arg" ++ (32 ∷ (name ++ (32 ∷ (range ++ (10 ∷ rest))))) ≡ (codes "arg " ++ (name ++ (codes " " ++ (range ++ 10 ∷ [])))) ++ rest
argument_shape name range rest = simp append_assoc

argument_whole : (name : List ℕ) (range : Range) (rest whole a b : List ℕ) → whole ≡ codes "arg" ++ (32 ∷ (name ++ (32 ∷ a))) → a ≡ range_text range ++ b → b ≡ 10 ∷ rest → whole ≡ argument_text name range ++ rest
argument_whole name range rest whole a b p q r =
    p ∙ ap (λ x. codes "arg " ++ (name ++ (32 ∷ x))) (q ∙ ap (λ x. range_text range ++ x) r) ∙ argument_shape name (range_text range) rest

argument_took : (ps : List Parameter) (k : Kind) (name : List ℕ) (c : Cursor) (t : ArgumentRange × Cursor) → argument_line ps k name c ≡ Ok t → TookArgument k name c t
unfolding argument_line
argument_took ps k name c t e =
    let a = then_back (due_parameter _ _ ps name c) _ t e in
    let b = then_back (argument_at k a.0) _ t a.2 in
    let d = then_back (end_line b.0.1) _ t b.2 in
    let r = range_took k a.0 b.0 b.1 in
    subst (λ (u : ArgumentRange × Cursor). TookArgument k name c u) (same_back (b.0.0, d.0) t d.2) (
      argument_whole name (argument_meant b.0.0) d.0.rest c.rest a.0.rest b.0.1.rest (due_parameter_took Conditions (codes "arg") ps name c a.0 a.1) r.0 (end_took b.0.1 d.0 d.1),
      r.1,
    )

-- lines behind those that were read before
pub record TookLines {A B : Type 0} (Are : List ℕ → List B → Type 0) (view : A → B) (done : List A) (c : Cursor) (t : List A × Cursor) : Type 0 where
  pub read : List A
  pub all : t.0 ≡ done ++ read
  pub lines : List ℕ
  pub are : Are lines (map view read)
  pub rest : c.rest ≡ lines ++ t.1.rest

pub no_line : {A B : Type 0} (Are : List ℕ → List B → Type 0) (view : A → B) (done : List A) (c : Cursor) (t : List A × Cursor) → Are [] [] → (let s : Step (List A × Cursor) = Ok (done, c) in s ≡ Ok t) → TookLines Are view done c t
no_line Are view done c t a e = subst (λ t. TookLines Are view done c t) (same_back (done, c) t e) (record { read = []; all = sym (append-nil done); lines = []; are = a; rest = refl })

pub one_line : {A B : Type 0} (Are More : List ℕ → List B → Type 0) (view : A → B) (done : List A) (a : A) (line : List ℕ) (c d : Cursor) (t : List A × Cursor) → c.rest ≡ line ++ d.rest → ((lines : List ℕ) (bs : List B) → Are lines bs → More (line ++ lines) (view a ∷ bs)) → TookLines Are view (done ++ a ∷ []) d t → TookLines More view done c t
one_line {A} Are More view done a line c d t q go others = record {
  read = a ∷ others.read;
  all = others.all ∙ append_assoc done (a ∷ []) others.read;
  lines = line ++ others.lines;
  are = go others.lines (map view others.read) others.are;
  rest = q ∙ ap (λ x. line ++ x) others.rest ∙ sym (append_assoc line others.lines t.1.rest);
}

pub arguments_took : (all : List Parameter) (done : List ArgumentRange) (ps : List Parameter) (c : Cursor) (t : List ArgumentRange × Cursor) → each (argument_due all) done ps c ≡ Ok t → TookLines (AreArgumentLines ps) argument_meant done c t
unfolding each
arguments_took all done [] c t e = no_line (AreArgumentLines []) argument_meant done c t no_argument e
arguments_took all done (Buffer constant k site name ∷ ps) c t e =
    let others = arguments_took all done ps c t e in
    record { read = others.read; all = others.all; lines = others.lines; are = past_buffer constant k site name others.are; rest = others.rest }
arguments_took all done (Value k site name ∷ ps) c t e =
    let u = then_back (argument_line all k name c) _ t e in
    let one = argument_took all k name c u.0 u.1 in
    let r : Range = argument_meant u.0.0 in
    one_line (AreArgumentLines ps) (AreArgumentLines (Value k site name ∷ ps)) argument_meant done u.0.0 (argument_text name r) c u.0.1 t one.0
    (λ lines rs more. an_argument k site name r one.1 more) (arguments_took all (done ++ u.0.0 ∷ []) ps u.0.1 t u.2)

-- what the line of a length said
abbrev TookLength : (products : Bool) → List Parameter → (name : List ℕ) → Cursor → Length × Cursor → Type 0
TookLength products ps name c t = (sum : List ℕ) × IsShortSum products ps sum (length_meant t.0) × (c.rest ≡ length_text name sum ++ t.1.rest)

pub length_shape : (name sum rest : List ℕ) → codes "length" ++ (32 ∷ (name ++ (32 ∷ (codes ">= " ++ (sum ++ (10 ∷ rest)))))) ≡ (codes "length " ++ (name ++ (codes " >= " ++ (sum ++ 10 ∷ [])))) ++ rest
length_shape name sum rest = simp append_assoc

length_whole : (name sum rest whole a b d : List ℕ) → whole ≡ codes "length" ++ (32 ∷ (name ++ (32 ∷ a))) → a ≡ codes ">= " ++ b → b ≡ sum ++ d → d ≡ 10 ∷ rest → whole ≡ length_text name sum ++ rest
length_whole name sum rest whole a b d p q r s =
    p ∙ ap (λ x. codes "length " ++ (name ++ (32 ∷ x))) (q ∙ ap (λ x. codes ">= " ++ x) (r ∙ ap (λ x. sum ++ x) s)) ∙ length_shape name sum rest

length_took : (products : Bool) (ps : List Parameter) (k : Kind) (name : List ℕ) (c : Cursor) (t : Length × Cursor) → length_line products ps k name c ≡ Ok t → TookLength products ps name c t
unfolding length_line
length_took products ps k name c t e =
    let a = then_back (due_parameter _ _ ps name c) _ t e in
    let b = then_back (expect _ a.0) _ t a.2 in
    let s = then_back (sum_at products ps 8 [] b.0) _ t b.2 in
    let d = then_back (end_line s.0.1) _ t s.2 in
    let sum = short_sum_took products ps b.0 s.0 s.1 in
    subst (λ (r : Length × Cursor). TookLength products ps name c r) (same_back (length_of k s.0.0 c.line, d.0) t d.2) (
      sum.0,
      sum.1,
      length_whole name sum.0 d.0.rest c.rest a.0.rest b.0.rest s.0.1.rest (due_parameter_took Conditions (codes "length") ps name c a.0 a.1) (expect_took (codes ">= ") a.0 b.0 b.1) sum.2 (end_took s.0.1 d.0 d.1),
    )

pub lengths_took : (products : Bool) (all : List Parameter) (done : List Length) (ps : List Parameter) (c : Cursor) (t : List Length × Cursor) → each (length_due products all) done ps c ≡ Ok t → TookLines (AreLengthLines products all ps) length_meant done c t
unfolding each
lengths_took products all done [] c t e = no_line (AreLengthLines products all []) length_meant done c t no_length e
lengths_took products all done (Value k site name ∷ ps) c t e =
    let others = lengths_took products all done ps c t e in
    record { read = others.read; all = others.all; lines = others.lines; are = past_value k site name others.are; rest = others.rest }
lengths_took products all done (Buffer constant k site name ∷ ps) c t e =
    let u = then_back (length_line products all k name c) _ t e in
    let one = length_took products all k name c u.0 u.1 in
    one_line (AreLengthLines products all ps) (AreLengthLines products all (Buffer constant k site name ∷ ps)) length_meant done u.0.0 (length_text name one.0) c u.0.1 t one.2
    (λ lines sums more. a_length constant k site name one.1 more) (lengths_took products all (done ++ u.0.0 ∷ []) ps u.0.1 t u.2)

-- what the line of a requirement said
pub record TookRequirement (products : Bool) (ps : List Parameter) (c : Cursor) (t : Requirement × Cursor) : Type 0 where
  pub left : List ℕ
  pub right : List ℕ
  pub left_sum : IsShortSum products ps left (requirement_meant t.0).left
  pub right_sum : IsShortSum products ps right (requirement_meant t.0).right
  pub rest : c.rest ≡ requirement_text left right ++ t.1.rest

pub requirement_shape : (left right rest : List ℕ) → codes "require" ++ (32 ∷ (left ++ (codes " >= " ++ (right ++ (10 ∷ rest))))) ≡ (codes "require " ++ (left ++ (codes " >= " ++ (right ++ 10 ∷ [])))) ++ rest
requirement_shape left right rest = simp append_assoc

requirement_whole : (left right rest whole a b d f : List ℕ) → whole ≡ codes "require" ++ (32 ∷ a) → a ≡ left ++ b → b ≡ codes " >= " ++ d → d ≡ right ++ f → f ≡ 10 ∷ rest → whole ≡ requirement_text left right ++ rest
requirement_whole left right rest whole a b d f p q r s t =
    p ∙ ap (λ x. codes "require " ++ x) (q ∙ ap (λ x. left ++ x) (r ∙ ap (λ x. codes " >= " ++ x) (s ∙ ap (λ x. right ++ x) t))) ∙ requirement_shape left right rest

requirement_took : (products : Bool) (ps : List Parameter) (c : Cursor) (t : Requirement × Cursor) → requirement_line products ps c ≡ Ok t → TookRequirement products ps c t
unfolding requirement_line
requirement_took products ps c t e =
    let a = then_back (due_blank _ _ c) _ t e in
    let left = then_back (sum_at products ps 8 [] a.0) _ t a.2 in
    let b = then_back (expect _ left.0.1) _ t left.2 in
    let right = then_back (sum_at products ps 8 [] b.0) _ t b.2 in
    let d = then_back (end_line right.0.1) _ t right.2 in
    let l = short_sum_took products ps a.0 left.0 left.1 in
    let r = short_sum_took products ps b.0 right.0 right.1 in
    subst (λ (u : Requirement × Cursor). TookRequirement products ps c u) (same_back (requirement_of left.0.0 right.0.0 c.line, d.0) t d.2) (record {
      left = l.0;
      right = r.0;
      left_sum = l.1;
      right_sum = r.1;
      rest = requirement_whole l.0 r.0 d.0.rest c.rest a.0.rest left.0.1.rest b.0.rest right.0.1.rest (due_blank_took Conditions (codes "require") c a.0 a.1) l.2 (expect_took (codes " >= ") left.0.1 b.0 b.1) r.2 (end_took right.0.1 d.0 d.1);
    })

-- what a line said, in front of what others said
record TookOne {A B : Type 0} (Are : List ℕ → List B → Type 0) (view : A → B) (c : Cursor) (t : A × Cursor) : Type 0 where
  pub line : List ℕ
  pub rest : c.rest ≡ line ++ t.1.rest
  pub goes : (lines : List ℕ) (bs : List B) → Are lines bs → Are (line ++ lines) (view t.0 ∷ bs)

-- at most as many as there was room for
abbrev pub AreFew : {B : Type 0} (Are : List ℕ → List B → Type 0) (room : ℕ) → List ℕ → List B → Type 0
AreFew Are room lines bs = Are lines bs × (length bs ≤ room)

module _ {A B : Type 0} (Are : List ℕ → List B → Type 0) (view : A → B) (keyword : List ℕ) (line : Cursor → Step (A × Cursor)) (none : Are [] []) (one : (c : Cursor) (t : A × Cursor) → line c ≡ Ok t → TookOne Are view c t) where
  several_took : (room : ℕ) (done : List A) (c : Cursor) (t : List A × Cursor) → several keyword line room done c ≡ Ok t → TookLines (AreFew Are room) view done c t
  unfolding several
  several_took zero done c t =
      cond_both (bytes_eq (first_word c.rest) keyword) (refused LimitPassed c) (Ok (done, c)) (λ s. s ≡ Ok t → TookLines (AreFew Are zero) view done c t)
      (λ _ e. absurd cc) (λ _ e. no_line (AreFew Are zero) view done c t (none, omega arith) e)
  several_took (suc room) done c t =
      cond_both (bytes_eq (first_word c.rest) keyword) (then (line c) (λ u. several keyword line room (done ++ u.0 ∷ []) u.1)) (Ok (done, c)) (λ s. s ≡ Ok t → TookLines (AreFew Are (suc room)) view done c t)
      (λ _ e. let u = then_back (line c) _ t e in
      let here = one c u.0 u.1 in
      one_line (AreFew Are room) (AreFew Are (suc room)) view done u.0.0 here.line c u.0.1 t here.rest
      (λ lines bs more. (here.goes lines bs more.0, omega (arith, more.1))) (several_took room (done ++ u.0.0 ∷ []) u.0.1 t u.2))
      (λ _ e. no_line (AreFew Are (suc room)) view done c t (none, omega arith) e)

requirement_one : (products : Bool) (ps : List Parameter) (c : Cursor) (t : Requirement × Cursor) → requirement_line products ps c ≡ Ok t → TookOne (AreRequirementLines products ps) requirement_meant c t
requirement_one products ps c t e =
    let one = requirement_took products ps c t e in
    record {
      line = requirement_text one.left one.right;
      rest = one.rest;
      goes = λ lines rs more. a_requirement (requirement_meant t.0) one.left_sum one.right_sum more;
    }

pub requirements_took : (products : Bool) (ps : List Parameter) (c : Cursor) (t : List Requirement × Cursor) → requirement_lines products ps c ≡ Ok t → TookLines (AreFew (AreRequirementLines products ps) 16) requirement_meant [] c t
requirements_took products ps c t e =
    several_took (AreRequirementLines products ps) requirement_meant (codes "require") (requirement_line products ps) no_requirement (requirement_one products ps) 16 [] c t e

-- the name of a buffer
abbrev TookBuffer : List Parameter → Cursor → ℕ × Cursor → Type 0
TookBuffer ps c t = (name : List ℕ) × (buffer_number 0 ps name ≡ Some t.0) × (c.rest ≡ name ++ t.1.rest)

buffer_named : (ps : List Parameter) (before : Cursor) (name : List ℕ) (o : Option ℕ) (c : Cursor) (t : ℕ × Cursor) → buffer_number 0 ps name ≡ o → before.rest ≡ name ++ c.rest → buffer_found ps name o c ≡ Ok t → TookBuffer ps before t
buffer_named ps before name (Some n) c t h r e = subst (λ t. TookBuffer ps before t) (same_back (n, c) t e) (name, h, r)
buffer_named ps before name None c t h r e =
    cond_both (is_known ps name) (refused Expected c) (refused UnknownName c) (λ s. s ≡ Ok t → TookBuffer ps before t) (λ _ f. absurd cc) (λ _ f. absurd cc) e

buffer_took : (ps : List Parameter) (c : Cursor) (t : ℕ × Cursor) → buffer_at ps c ≡ Ok t → TookBuffer ps c t
unfolding buffer_at
buffer_took ps c t e =
    let n = then_back (name_at c) _ t e in
    buffer_named ps c n.0.0 (buffer_number 0 ps n.0.0) n.0.1 t refl (name_took c n.0 n.1) n.2

side_took : (c : Cursor) (t : Bool × Cursor) → end_at c ≡ Ok t → c.rest ≡ end_text t.0 ++ t.1.rest
unfolding end_at
side_took c t =
    cond_both (sees (codes " <= ") c) (Ok (true, past 4 c)) (then (expect (codes " >= ") c) (λ d. Ok (false, d))) (λ s. s ≡ Ok t → c.rest ≡ end_text t.0 ++ t.1.rest)
    (λ h e. subst (λ (r : Bool × Cursor). c.rest ≡ end_text r.0 ++ r.1.rest) (same_back (true, past 4 c) t e) (begins c.rest (codes " <= ") h))
    (λ h e. let d = then_back (expect (codes " >= ") c) _ t e in
    subst (λ (r : Bool × Cursor). c.rest ≡ end_text r.0 ++ r.1.rest) (same_back (false, d.0) t d.2) (expect_took (codes " >= ") c d.0 d.1))

-- what a line says that a buffer holds
record TookContent (ps : List Parameter) (c : Cursor) (t : ContentLine × Cursor) : Type 0 where
  pub name : List ℕ
  pub sum : List ℕ
  pub is_buffer : buffer_number 0 ps name ≡ Some (content_meant t.0).buffer
  pub is_sum : IsShortSum true ps sum (content_meant t.0).sum
  pub rest : c.rest ≡ content_text name t.0.is_upper sum ++ t.1.rest

pub content_shape : (name side sum rest : List ℕ) → codes "values" ++ (32 ∷ (name ++ (side ++ (sum ++ (10 ∷ rest))))) ≡ (codes "values " ++ (name ++ (side ++ (sum ++ 10 ∷ [])))) ++ rest
content_shape name side sum rest = simp append_assoc

content_whole : (name side sum rest whole a b d f : List ℕ) → whole ≡ codes "values" ++ (32 ∷ a) → a ≡ name ++ b → b ≡ side ++ d → d ≡ sum ++ f → f ≡ 10 ∷ rest → whole ≡ (codes "values " ++ (name ++ (side ++ (sum ++ 10 ∷ [])))) ++ rest
content_whole name side sum rest whole a b d f p q r s t =
    p ∙ ap (λ x. codes "values " ++ x) (q ∙ ap (λ x. name ++ x) (r ∙ ap (λ x. side ++ x) (s ∙ ap (λ x. sum ++ x) t))) ∙ content_shape name side sum rest

content_took : (ps : List Parameter) (c : Cursor) (t : ContentLine × Cursor) → content_line ps c ≡ Ok t → TookContent ps c t
unfolding content_line
content_took ps c t e =
    let a = then_back (due_blank _ _ c) _ t e in
    let b = then_back (buffer_at ps a.0) _ t a.2 in
    let u = then_back (end_at b.0.1) _ t b.2 in
    let s = then_back (sum_at true ps 8 [] u.0.1) _ t u.2 in
    let d = then_back (end_line s.0.1) _ t s.2 in
    let own = buffer_took ps a.0 b.0 b.1 in
    let sum = short_sum_took true ps u.0.1 s.0 s.1 in
    subst (λ (r : ContentLine × Cursor). TookContent ps c r) (same_back (content_of b.0.0 u.0.0 s.0.0 c.line, d.0) t d.2) (record {
      name = own.0;
      sum = sum.0;
      is_buffer = own.1;
      is_sum = sum.1;
      rest = content_whole own.0 (end_text u.0.0) sum.0 d.0.rest c.rest a.0.rest b.0.1.rest u.0.1.rest s.0.1.rest (due_blank_took Conditions (codes "values") c a.0 a.1) own.2 (side_took b.0.1 u.0 u.1) sum.2 (end_took s.0.1 d.0 d.1);
    })

content_one : (ps : List Parameter) (c : Cursor) (t : ContentLine × Cursor) → content_line ps c ≡ Ok t → TookOne (AreContentLines true ps) content_meant c t
content_one ps c t e =
    let one = content_took ps c t e in
    record {
      line = content_text one.name t.0.is_upper one.sum;
      rest = one.rest;
      goes = λ lines xs more. a_content one.name (content_meant t.0) refl one.is_buffer one.is_sum more;
    }

pub contents_took : (is_two : Bool) (ps : List Parameter) (c : Cursor) (t : List ContentLine × Cursor) → content_lines is_two ps c ≡ Ok t → TookLines (AreFew (AreContentLines is_two ps) 16) content_meant [] c t
unfolding content_lines
contents_took true ps c t e =
    several_took (AreContentLines true ps) content_meant (codes "values") (content_line ps) no_content (content_one ps) 16 [] c t e
contents_took false ps c t e = no_line (AreFew (AreContentLines false ps) 16) content_meant [] c t (no_content, omega arith) e

abbrev TookBudget : Cursor → ℕ × Cursor → Type 0
TookBudget c t = (c.rest ≡ budget_text t.0 ++ t.1.rest) × ((1 ≤ t.0) × (t.0 ≤ 1000000000000))

budget_shape : (number rest : List ℕ) → codes "budget" ++ (32 ∷ (number ++ (10 ∷ rest))) ≡ (codes "budget " ++ (number ++ 10 ∷ [])) ++ rest
budget_shape number rest = simp append_assoc

budget_whole : (n : ℕ) (rest whole a b : List ℕ) → whole ≡ codes "budget" ++ (32 ∷ a) → a ≡ decimal n ++ b → b ≡ 10 ∷ rest → whole ≡ budget_text n ++ rest
budget_whole n rest whole a b p q r = p ∙ ap (λ x. codes "budget " ++ x) (q ∙ ap (λ x. decimal n ++ x) r) ∙ budget_shape (decimal n) rest

pub budget_took : (c : Cursor) (t : ℕ × Cursor) → budget_line c ≡ Ok t → TookBudget c t
unfolding budget_line
budget_took c t e =
    let a = then_back (due_blank _ _ c) _ t e in
    let n = then_back (natural_at 1 1000000000000 a.0) _ t a.2 in
    let d = then_back (end_line n.0.1) _ t n.2 in
    subst (λ (u : ℕ × Cursor). TookBudget c u) (same_back (n.0.0, d.0) t d.2) (
      budget_whole n.0.0 d.0.rest c.rest a.0.rest n.0.1.rest (due_blank_took Conditions (codes "budget") c a.0 a.1) (natural_took 1 1000000000000 a.0 n.0 n.1) (end_took n.0.1 d.0 d.1),
      natural_back 1 1000000000000 a.0 n.0 n.1,
    )

pub greatest_of : (may_lack : Bool) → may_lack ≡ true → IsBudget may_lack [] 1000000000000
greatest_of true h = greatest
greatest_of false h = absurd cc

-- what the last line is, if there is one
pub record TookLast (may_lack : Bool) (c : Cursor) (t : ℕ × Cursor) : Type 0 where
  pub line : List ℕ
  pub is_budget : IsBudget may_lack line t.0
  pub rest : c.rest ≡ line ++ t.1.rest

pub last_took : (may_lack : Bool) (c : Cursor) (t : ℕ × Cursor) → budget_at may_lack c ≡ Ok t → TookLast may_lack c t
unfolding budget_at
last_took may_lack c t e =
    cond_both (may_lack && is_empty c.rest) (Ok (1000000000000, c)) (budget_line c) (λ s. s ≡ Ok t → TookLast may_lack c t)
    (λ h f. subst (λ (u : ℕ × Cursor). TookLast may_lack c u) (same_back (1000000000000, c) t f) (record {
      line = [];
      is_budget = greatest_of may_lack (and_parts may_lack (is_empty c.rest) h).0;
      rest = refl;
    }))
    (λ _ f. let own = budget_took c t f in record {
      line = budget_text t.0;
      is_budget = given t.0 own.1.0 own.1.1;
      rest = own.0;
    }) e

pub not_above : (a b : ℕ) → nat_lt a b ≡ false → b ≤ a
not_above a b h = grind (arith, nat_tests)
