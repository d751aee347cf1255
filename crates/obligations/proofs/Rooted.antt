-- An item of which a place's lines hold stands before the place's tree.
use Rattle.std.proofs.Common.{◌≡◌, ℕ, zero, suc, ◌+◌, ◌<◌, ◌≤◌, Bool, true, false, cond, List, [], ◌∷◌, ◌++◌, length, length-append, slice_index_or, arith, refl, sym, ap, ◌∙◌, subst, inl, inr}
use Rattle.std.specs.Prelude.{ℤ, pos, ◌≤ℤ◌, ◌*ℤ◌, ◌⊎◌, int_le}
use Rattle.std.specs.List.{All}
use Rattle.std.proofs.lemmas.Int.{ints}
use Rattle.std.proofs.lemmas.Bool.{and_parts, cases_lt}
use Rattle.std.proofs.lemmas.List.Elements.{All-append, All-cons, All-nil}
use Rattle.semantics.specs.Word.{Kind, Int, Word, zero_word, in_kind}
use Rattle.linear.specs.Linear.{value_of, IsMet}
use Rattle.semantics.proofs.Integers.{mul_comm}
use Rattle.linear.specs.Exact.{multiple}
use Rattle.facts.specs.Symbols as symbols
use Rattle.facts.specs.Symbols.{First, Second, Symbol, ArgumentOf, Length, Local, Group, New, Variable, AtAnchor, Turns, number, symbol_of, Fact, constant, once, minus, equals}
use Rattle.facts.specs.Elements.{element, nth}
use Rattle.facts.proofs.Integers.{le_test}
use Rattle.facts.proofs.Members.{by_number, between-has}
use Rattle.facts.proofs.Values.{value-minus, value-constant, value-once, value-multiple, met_equals}
use Rattle.facts.proofs.Worlds.{View, Agrees, new_at, variable_at}
use Rattle.walk_trees.specs.Held.{Narrowed}
use Rattle.walk_trees.specs.Values.{value}
use Rattle.walk_trees.specs.Walks.{any_of, least, greatest}
use Rattle.walk_trees.specs.Terms.{no_value}
use Rattle.walk_trees.proofs.Holding.{known_of, IsHeld, Suits, held_opening, narrowed-held}
use Rattle.walk_trees.proofs.KindEnds.{in_kind-ends}
use Rattle.walk_trees.proofs.Ranges.{IsForm, IsValue, form_constant, form_once}
use Rattle.walk_trees.proofs.TermSound.{AreForms}
use Rattle.domain.specs.Multiples.{from-test}
use Rattle.obligations.specs.Notes.{Congruence, Multiple}
use Rattle.obligations.specs.Telling.{tells, all_tell, congruences_tell, multiples_tell}
use Rattle.obligations.specs.Roots.{is_kept, kinds, kind_of, root_form, values_from, narrowed_from, tops, ends_of, all_ends, congruence_facts, multiple_facts, quotient_facts}
use Rattle.obligations.specs.Walking.{divides}
use Rattle.obligations.proofs.Words.{are_words, Fit, words-each, fits-length}
use Rattle.obligations.proofs.PlaceLines.{facts_hold, congruences_hold, multiples_hold}
use Rattle.obligations.proofs.Replaced.{value_at}
use Rattle.obligations.proofs.Told.{told-value}
use Rattle.obligations.proofs.Quotients.{new-left, new-right, multiple_quotients, multiple_quotients-length, multiples-met}

pub past-each : {A : Type 0} (xs : List A) (d : A) (x : ℕ) → length xs < suc x → slice_index_or xs x d ≡ d
past-each [] d x h = refl
past-each (a ∷ xs) d zero h = absurd (omega (arith, h))
past-each (a ∷ xs) d (suc x) h = past-each xs d x (omega (arith, h))

-- a variable is a number of its kind
pub word-right : {E : Type 0} (c : View E) (ws : List Word) → are_words c.kernel c.launch ws ≡ true → (x : ℕ) → in_kind (kind_of c.kernel x) (variable_at ws x) ≡ true
word-right c ws h x = elim (cases_lt x (length (kinds c.kernel))) [
  | inl l ↦ (words-each c.kernel c.launch ws h x l).right
  | inr g ↦
      let e = past-each (kinds c.kernel) Int x (omega (arith, g)) in
      let f = past-each ws zero_word x (let n = fits-length c.kernel c.launch 0 (kinds c.kernel) ws h in omega (arith, n, g)) in
      subst (λ k. in_kind k (variable_at ws x) ≡ true) (sym e) (subst (λ (w : Word). in_kind Int w.value ≡ true) (sym f) refl)
]

module _ {E : Type 0} (c : View E) where
  -- quotients are new symbols of which nothing is known
  abbrev pub AreTops : List E → Type 0
  AreTops es = (k : ℕ) → nth c.domain es k ≡ c.domain.top_of

  element-tops : (es : List E) → AreTops es → (s : Symbol) → element c.domain (record { known = known_of c; first = []; second = [] }) s ≡ element c.domain (record { known = known_of c; first = es; second = [] }) s
  element-tops es t (symbols.Groups d) = refl
  element-tops es t (ArgumentOf n) = refl
  element-tops es t (Length b) = refl
  element-tops es t (Local w d) = refl
  element-tops es t (Group w d) = refl
  element-tops es t (New First k) = sym (t k)
  element-tops es t (New Second k) = refl
  element-tops es t (Variable w x) = refl
  element-tops es t (AtAnchor w x) = refl
  element-tops es t (Turns w k) = refl

  pub fewer : (news : List ℤ) (v : ℕ → ℤ) → Agrees c news v → Agrees c [] v
  fewer news v a = record { products = a.products; groups = a.groups; given = a.given; lengths = a.lengths; local = a.local; group = a.group; variable = a.variable; at_anchor = a.at_anchor; turns = a.turns; new = λ k h. absurd (omega (arith, h)) }

  pub held_tops : (es : List E) → AreTops es → (news : List ℤ) → IsHeld c news (record { news = es; narrowed = [] })
  held_tops es t news m u n = subst (λ e. c.domain.has e (by_number m n) ≡ true) (element-tops es t (symbol_of n)) (held_opening c m (record { agrees = fewer news (by_number m) u.agrees; local = u.local; group = u.group }) n)

  append-one : {A : Type 0} (xs : List A) (y : A) (ys : List A) → (xs ++ y ∷ []) ++ ys ≡ xs ++ y ∷ ys
  append-one [] y ys = refl
  append-one (x ∷ xs) y ys = ap (λ zs. x ∷ zs) (append-one xs y ys)

  append-none : {A : Type 0} (xs : List A) → xs ++ [] ≡ xs
  append-none [] = refl
  append-none (x ∷ xs) = ap (λ zs. x ∷ zs) (append-none xs)

  -- variables are numbers of their kinds, from a slot on
  pub held_from : (s : ℕ → Symbol) (news : List ℤ) (es : List E) (ns : List (Narrowed E)) (y : ℕ) (ks : List Kind) → ((m : Symbol → ℤ) → Suits c news m → (x : ℕ) → x < length ks → in_kind (slice_index_or ks x Int) (by_number m (number (s (y + x)))) ≡ true) →
      IsHeld c news (record { news = es; narrowed = ns }) → IsHeld c news (record { news = es; narrowed = ns ++ narrowed_from c.domain s y ks })
  held_from s news es ns y [] f h = subst (λ n. IsHeld c news (record { news = es; narrowed = n })) (sym (append-none ns)) h
  held_from s news es ns y (a ∷ ks) f h =
      let one : Narrowed E = record { symbol = number (s y); element = any_of c.domain a } in
      let e : y + 0 ≡ y = omega arith in
      subst (λ n. IsHeld c news (record { news = es; narrowed = n })) (append-one ns one (narrowed_from c.domain s (suc y) ks))
      (held_from s news es (ns ++ one ∷ []) (suc y) ks (λ m u x l. let g : y + suc x ≡ suc y + x = omega arith in subst (λ j. in_kind (slice_index_or ks x Int) (by_number m (number (s j))) ≡ true) g (f m u (suc x) (omega (arith, l))))
      (narrowed-held c news (record { news = es; narrowed = ns }) (number (s y)) (any_of c.domain a) (λ m u.
      let r : in_kind a (by_number m (number (s y))) ≡ true = subst (λ j. in_kind a (by_number m (number (s j))) ≡ true) e (f m u 0 (omega arith)) in
      let b = in_kind-ends a (by_number m (number (s y))) r in
      between-has c.domain c.lawful (least a) (greatest a) (by_number m (number (s y))) b.0 b.1) h))

  -- the two ends of each variable
  ends-met : (v : ℕ → ℤ) (s : ℕ → Symbol) (x : ℕ) → in_kind (kind_of c.kernel x) (v (number (s x))) ≡ true → All (IsMet v) (ends_of c.kernel s x)
  ends-met v s x h =
      let k = kind_of c.kernel x in
      let b = in_kind-ends k (v (number (s x))) h in
      All-cons (IsMet v) (minus (once (s x)) (constant (least k))) (minus (constant (greatest k)) (once (s x)) ∷ []) (omega (arith, ints, b, value-minus v (once (s x)) (constant (least k)), value-constant v (least k), value-once v (s x)))
      (All-cons (IsMet v) (minus (constant (greatest k)) (once (s x))) [] (omega (arith, ints, b, value-minus v (constant (greatest k)) (once (s x)), value-constant v (greatest k), value-once v (s x))) (All-nil (IsMet v)))

  pub all_ends-met : (v : ℕ → ℤ) (s : ℕ → Symbol) → ((x : ℕ) → in_kind (kind_of c.kernel x) (v (number (s x))) ≡ true) → (xs : List ℕ) → All (IsMet v) (all_ends c.kernel s xs)
  all_ends-met v s h [] = All-nil (IsMet v)
  all_ends-met v s h (x ∷ xs) = All-append (IsMet v) (ends_of c.kernel s x) (all_ends c.kernel s xs) (ends-met v s x (h x)) (all_ends-met v s h xs)

  -- facts that are said of the place
  pub facts-met : (b : Bool) (news : List ℤ) (v : ℕ → ℤ) → Agrees c news v → (fs : List Fact) → all_tell b fs ≡ true → facts_hold (value_at c c.root) fs ≡ true → All (IsMet v) fs
  facts-met b news v a [] t h = All-nil (IsMet v)
  facts-met b news v a (f ∷ fs) t h =
      let p = and_parts (tells b f) (all_tell b fs) t in
      let q = and_parts (int_le (pos 0) (value_at c c.root f)) (facts_hold (value_at c c.root) fs) h in
      All-cons (IsMet v) f fs (subst (λ z. pos 0 ≤ℤ z) (sym (told-value c news v a b f p.0)) (le_test (pos 0) (value_at c c.root f) q.0)) (facts-met b news v a fs p.1 q.1)

  -- the quotients of congruences
  pub quotients : (cs : List Congruence) → congruences_hold (value_at c c.root) cs ≡ true → List ℤ
  quotients [] h = []
  quotients (x ∷ cs) h = let p = and_parts (divides x.modulus (value_at c c.root x.form)) (congruences_hold (value_at c c.root) cs) h in (from-test x.modulus (value_at c c.root x.form) p.0).0 ∷ quotients cs p.1

  pub quotients-length : (cs : List Congruence) (h : congruences_hold (value_at c c.root) cs ≡ true) → length (quotients cs h) ≡ length (tops c.domain cs)
  unfolding quotients
  quotients-length [] h = refl
  quotients-length (x ∷ cs) h = ap suc (quotients-length cs _)

  pub congruence-facts : (b : Bool) (news : List ℤ) (v : ℕ → ℤ) → Agrees c news v → (y : ℕ) (cs : List Congruence) → congruences_tell b cs ≡ true → (h : congruences_hold (value_at c c.root) cs ≡ true) →
      ((k : ℕ) → k < length (quotients cs h) → v (number (New First (y + k))) ≡ new_at (quotients cs h) k) → All (IsMet v) (congruence_facts y cs)
  unfolding quotients
  congruence-facts b news v a y [] t h n = All-nil (IsMet v)
  congruence-facts b news v a y (x ∷ cs) t h n =
      let p = and_parts (tells b x.form) (congruences_tell b cs) t in
      let q = and_parts (divides x.modulus (value_at c c.root x.form)) (congruences_hold (value_at c c.root) cs) h in
      let u = from-test x.modulus (value_at c c.root x.form) q.0 in
      let e : y + 0 ≡ y = omega arith in
      let new : v (number (New First y)) ≡ u.0 = subst (λ j. v (number (New First j)) ≡ u.0) e (n 0 (omega arith)) in
      let o = once (New First y) in
      let same : value_of v x.form ≡ value_of v (multiple (pos x.modulus) o) =
      told-value c news v a b x.form p.0 ∙ u.1 ∙ mul_comm u.0 (pos x.modulus) ∙ sym (value-multiple v (pos x.modulus) o ∙ ap (λ z. pos x.modulus *ℤ z) (value-once v (New First y) ∙ new)) in
      All-append (IsMet v) (equals x.form (multiple (pos x.modulus) o)) (congruence_facts (suc y) cs) (met_equals v x.form (multiple (pos x.modulus) o) same)
      (congruence-facts b news v a (suc y) cs p.1 q.1 (λ k l. let g : y + suc k ≡ suc y + k = omega arith in subst (λ j. v (number (New First j)) ≡ new_at (quotients cs q.1) k) g (n (suc k) (omega (arith, l)))))

  -- the new symbols of a place: the quotients of its congruences, then those of its multiples
  pub root_news : (cs : List Congruence) (ms : List Multiple) → congruences_hold (value_at c c.root) cs ≡ true → multiples_hold (value_at c c.root) ms ≡ true → List ℤ
  root_news cs ms h g = quotients cs h ++ multiple_quotients c ms g

  pub root_news-length : (cs : List Congruence) (ms : List Multiple) (h : congruences_hold (value_at c c.root) cs ≡ true) (g : multiples_hold (value_at c c.root) ms ≡ true) → length (root_news cs ms h g) ≡ length (tops c.domain cs ++ tops c.domain ms)
  unfolding root_news
  root_news-length cs ms h g =
      length-append (quotients cs h) (multiple_quotients c ms g) ∙ (λ i. quotients-length cs h i + multiple_quotients-length c ms g i) ∙ sym (length-append (tops c.domain cs) (tops c.domain ms))

  tops-length : {A : Type 0} (xs : List A) → length (tops c.domain xs) ≡ length xs
  tops-length [] = refl
  tops-length (x ∷ xs) = ap suc (tops-length xs)

  pub quotients-met : (b : Bool) (v : ℕ → ℤ) (cs : List Congruence) (ms : List Multiple) → congruences_tell b cs ≡ true → multiples_tell b ms ≡ true → (h : congruences_hold (value_at c c.root) cs ≡ true) (g : multiples_hold (value_at c c.root) ms ≡ true) →
      Agrees c (root_news cs ms h g) v → All (IsMet v) (quotient_facts cs ms)
  unfolding root_news
  quotients-met b v cs ms t u h g a =
      let qs = quotients cs h in
      let rs = multiple_quotients c ms g in
      let n = length-append qs rs in
      let m : length qs ≡ length cs = quotients-length cs h ∙ tops-length cs in
      All-append (IsMet v) (congruence_facts 0 cs) (multiple_facts (length cs) ms)
      (congruence-facts b (qs ++ rs) v a 0 cs t h (λ k l. let e : 0 + k ≡ k = omega arith in subst (λ j. v (number (New First j)) ≡ new_at qs k) (sym e) (a.new k (omega (arith, l, n)) ∙ new-left qs rs k l)))
      (multiples-met c b (qs ++ rs) v a (length cs) ms u g (λ k l. subst (λ j. v (number (New First (j + k))) ≡ new_at rs k) m (a.new (length qs + k) (omega (arith, l, n)) ∙ new-right qs rs k)))

  -- variables are symbols, but for parameters that nothing assigns
  root_value : (news : List ℤ) (x : ℕ) (w : Word) → w.value ≡ variable_at c.root.variables x → Fit c.kernel c.launch x w.kind w → (b : Bool) → is_kept c.kernel x ≡ b → IsForm c news (cond b (once (ArgumentOf x)) (once (Variable First x))) w.value
  root_value news x w e f true k = form_once c news (ArgumentOf x) w.value (λ v a. a.given x ∙ sym (f.kept k))
  root_value news x w e f false k = form_once c news (Variable First x) w.value (λ v a. a.variable x ∙ sym e)

  values-length : (y : ℕ) (ks : List Kind) → length (values_from c.kernel y ks) ≡ length ks
  values-length y [] = refl
  values-length y (a ∷ ks) = ap suc (values-length (suc y) ks)

  values-each : (y : ℕ) (ks : List Kind) (x : ℕ) → x < length ks → slice_index_or (values_from c.kernel y ks) x no_value ≡ value (slice_index_or ks x Int) (root_form c.kernel (y + x))
  values-each y [] x l = absurd (omega (arith, l))
  values-each y (a ∷ ks) zero l = let e : y ≡ y + 0 = omega arith in ap (λ j. value a (root_form c.kernel j)) e
  values-each y (a ∷ ks) (suc x) l = let e : suc y + x ≡ y + suc x = omega arith in values-each (suc y) ks x (omega (arith, l)) ∙ ap (λ j. value (slice_index_or ks x Int) (root_form c.kernel j)) e

  value_slot : (news : List ℤ) → are_words c.kernel c.launch c.root.variables ≡ true → (x : ℕ) → x < length (kinds c.kernel) → IsValue c news (slice_index_or c.root.variables x zero_word) (value (kind_of c.kernel x) (root_form c.kernel x))
  value_slot news h x l =
      let f = words-each c.kernel c.launch c.root.variables h x l in
      let w = slice_index_or c.root.variables x zero_word in
      record { kind = sym f.kind; form = root_value news x w refl (record { kind = refl; right = subst (λ k. in_kind k w.value ≡ true) (sym f.kind) f.right; kept = f.kept }) (is_kept c.kernel x) refl }

  pub root_forms : (news : List ℤ) → are_words c.kernel c.launch c.root.variables ≡ true → AreForms c news c.root.variables (values_from c.kernel 0 (kinds c.kernel))
  root_forms news h = record {
    lengths = fits-length c.kernel c.launch 0 (kinds c.kernel) c.root.variables h ∙ sym (values-length 0 (kinds c.kernel));
    right = λ x. by_right x (cases_lt x (length (kinds c.kernel)));
    each = λ x. by_each x (cases_lt x (length (kinds c.kernel)));
  }
    where
      by_right : (x : ℕ) → (x < length (kinds c.kernel)) ⊎ (length (kinds c.kernel) ≤ x) → in_kind (slice_index_or c.root.variables x zero_word).kind (variable_at c.root.variables x) ≡ true
      by_right x (inl l) = let f = words-each c.kernel c.launch c.root.variables h x l in subst (λ k. in_kind k (variable_at c.root.variables x) ≡ true) (sym f.kind) f.right
      by_right x (inr g) = subst (λ (w : Word). in_kind w.kind w.value ≡ true) (sym (past-each c.root.variables zero_word x (let n = fits-length c.kernel c.launch 0 (kinds c.kernel) c.root.variables h in omega (arith, n, g)))) refl

      by_each : (x : ℕ) → (x < length (kinds c.kernel)) ⊎ (length (kinds c.kernel) ≤ x) → IsValue c news (slice_index_or c.root.variables x zero_word) (slice_index_or (values_from c.kernel 0 (kinds c.kernel)) x no_value)
      by_each x (inl l) =
          let e : 0 + x ≡ x = omega arith in
          subst (λ y. IsValue c news (slice_index_or c.root.variables x zero_word) y) (sym (values-each 0 (kinds c.kernel) x l ∙ ap (λ j. value (kind_of c.kernel x) (root_form c.kernel j)) e)) (value_slot news h x l)
      by_each x (inr g) =
          subst (λ y. IsValue c news (slice_index_or c.root.variables x zero_word) y) (sym (past-each (values_from c.kernel 0 (kinds c.kernel)) no_value x (let n = values-length 0 (kinds c.kernel) in omega (arith, n, g))))
          (subst (λ w. IsValue c news w no_value) (sym (past-each c.root.variables zero_word x (let n = fits-length c.kernel c.launch 0 (kinds c.kernel) c.root.variables h in omega (arith, n, g)))) (record { kind = refl; form = form_constant c news (pos 0) }))
