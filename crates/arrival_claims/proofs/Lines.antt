-- What is said of a place, claim by claim.
use Rattle.std.proofs.Common.{◌≡◌, ℕ, ◌+◌, Bool, true, false, ◌&&◌, List, [], ◌∷◌, ◌++◌, Option, None, Some, drop, map, refl, sym}
use Rattle.std.specs.Prelude.{pos, negsuc, Result}
use Rattle.linear.specs.Exact.{fits, multiple}
use Rattle.linear.specs.Forms.{forms}
use Rattle.linear.specs.declared.form.Form.{Form}
use Rattle.facts.specs.Symbols.{Fact, constant, minus}
use Rattle.facts.specs.Refusals.{IsUnfit}
use Rattle.facts.specs.declared.error.WalkError.{WalkError}
use Rattle.facts.specs.declared.error.WalkError.TheVariants as errors
use Rattle.facts.proofs.Tests.{and_left, and_right}
use Rattle.walk_trees.specs.Fitting.{all_fit}
use Rattle.walk_trees.specs.Operators.{small_product}
use Rattle.walk_trees.specs.Trees.{OfFact, OfCongruence, Replaced, Divided, Tree}
use Rattle.walk_trees.specs.Walks.{State, settles}
use Rattle.obligations.specs.Notes as notes
use Rattle.obligations.specs.Replacing.{replaced, made}
use Rattle.obligations.specs.Walking.{Placed, on_path, divides_form, never, has_form, claim_replaced, claim_fact, claim_facts, claim_quotient, claim_congruence, claim_congruences, claim_product, claim_multiple, claim_multiples}
use Rattle.path_steps.specs.Paths.{Followed, collect}
use Rattle.path_steps.specs.Refusals.{StopsAtStep, IsGoalUnfit}
use Rattle.path_steps.proofs.Refusing.{unfit_goal}
use Rattle.obligations.specs.View.{congruence, multiple as multiple_seen}
use Rattle.obligations.specs.declared.notes.Congruence.{Congruence}
use Rattle.obligations.specs.declared.notes.Multiple.{Multiple}
use Rattle.arrival_claims.specs.Unfit.{AreUnfit, IsNotPut, both_made, have_forms, AreNotPut}
use Rattle.arrival_claims.specs.Claims.{claim_told, claim_under, claim_divided, claim_put, claim_put_multiple}
use Rattle.arrival_claims.proofs.Making.{unfit_among}
use Rattle.arrival_claims.proofs.Putting.{Walk, Does, does_as, put_does, never_does, unmade_stops}

-- so many facts are behind
abbrev pub FactsFollow : {E : Type 0} → Placed E → List Form → Followed E → Followed E → ℕ → Type 0
FactsFollow {E} w fs l m i = (go : State E → Tree E) → collect l.found (claim_facts w (forms fs) l.state go) ≡ collect m.found (claim_facts w (forms (drop i fs)) m.state go)

abbrev pub MultiplesFollow : {E : Type 0} → Placed E → List Multiple → Followed E → Followed E → ℕ → Type 0
MultiplesFollow {E} w ms l m i = (go : State E → Tree E) → collect l.found (claim_multiples w (map multiple_seen ms) l.state go) ≡ collect m.found (claim_multiples w (map multiple_seen (drop i ms)) m.state go)

abbrev pub CongruencesFollow : {E : Type 0} → Placed E → List Congruence → Followed E → Followed E → ℕ → Type 0
CongruencesFollow {E} w cs l m i = (go : State E → Tree E) → collect l.found (claim_congruences w (map congruence cs) l.state go) ≡ collect m.found (claim_congruences w (map congruence (drop i cs)) m.state go)

pub unfit_replaced : (e : WalkError) (ms : List Fact) (f : Fact) → AreUnfit e ms → IsGoalUnfit e (Replaced ms f)
unfit_replaced errors.TooMany ms f h = h
unfit_replaced errors.TooLarge ms f h = and_left (all_fit ms) (fits f) h
unfit_replaced errors.Memory ms f h = h

pub unfit_told : (e : WalkError) (ms : List Fact) (f : Fact) → IsUnfit e f → IsGoalUnfit e (Replaced ms f)
unfit_told errors.TooMany ms f h = h
unfit_told errors.TooLarge ms f h = and_right (all_fit ms) (fits f) h
unfit_told errors.Memory ms f h = h

pub unfit_divided : (e : WalkError) (ms : List Fact) (f : Fact) → AreUnfit e ms → IsGoalUnfit e (Divided ms f)
unfit_divided errors.TooMany ms f h = h
unfit_divided errors.TooLarge ms f h = and_left (all_fit ms) (fits f) h
unfit_divided errors.Memory ms f h = h

pub unfit_difference : (e : WalkError) (ms : List Fact) (f : Fact) → IsUnfit e f → IsGoalUnfit e (Divided ms f)
unfit_difference errors.TooMany ms f h = h
unfit_difference errors.TooLarge ms f h = and_right (all_fit ms) (fits f) h
unfit_difference errors.Memory ms f h = h

first_of_two : (b c d : Bool) → (c ≡ false → d ≡ false) → (b && c) ≡ false → (b && d) ≡ false
first_of_two true c d k h = k h
first_of_two false c d k h = refl

all_before : (xs ys : List Fact) → all_fit xs ≡ false → all_fit (xs ++ ys) ≡ false
all_before [] ys h = absurd cc
all_before (x ∷ xs) ys h = first_of_two (fits x) _ _ (all_before xs ys) h

pub before : (e : WalkError) (xs ys : List Fact) → AreUnfit e xs → AreUnfit e (xs ++ ys)
before errors.TooMany xs ys h = h
before errors.TooLarge xs ys h = all_before xs ys h
before errors.Memory xs ys h = h

-- a fact that was put in the path's terms
module _ {E : Type 0} (w : Placed E) (f : Fact) (l : Followed E) where
  abbrev facts : State E → Walk E
  facts st = claim_replaced w (made (on_path w st) f) (replaced (on_path w st) f)

  pub told_does : (ms : List Fact) (g : Fact) (n : Followed E) (r : Result (Unit {0}) WalkError) → has_form w l.state f ≡ true → ms ≡ made (on_path w l.state) f → g ≡ replaced (on_path w l.state) f → Does l n r (claim_told w.setting OfFact ms g) → Does l n r (claim_fact w f)
  told_does ms g n r e p q h = put_does (λ st. has_form w st f) facts l n r e (does_as l n r (claim_told w.setting OfFact ms g) (facts l.state) (λ i. claim_told w.setting OfFact (p i) (q i)) h)

  pub fact_never : (n : Followed E) (r : Result (Unit {0}) WalkError) → has_form w l.state f ≡ false → Does l n r never → Does l n r (claim_fact w f)
  fact_never n r e h = never_does (λ st. has_form w st f) facts l n r e h

  pub fact_unmade : (e : WalkError) → IsNotPut (on_path w l.state) f e → StopsAtStep l e (claim_fact w f)
  fact_unmade e h =
      let ms = made (on_path w l.state) f in
      let g = replaced (on_path w l.state) f in
      unmade_stops (λ st. has_form w st f) facts l ms e (λ u. unfit_goal OfFact true (settles w.setting l.state g) (Replaced ms g) l e (unfit_replaced e ms g u)) h

-- a congruence whose form was
module _ {E : Type 0} (w : Placed E) (c : notes.Congruence) (l : Followed E) where
  abbrev congruences : State E → Walk E
  congruences st = claim_quotient w (made (on_path w st) c.form) c.modulus (replaced (on_path w st) c.form) (w.notes.quotient (st.claims + 1))

  pub divided_does : (ms : List Fact) (g : Fact) (n : Followed E) (r : Result (Unit {0}) WalkError) → has_form w l.state c.form ≡ true → ms ≡ made (on_path w l.state) c.form → g ≡ replaced (on_path w l.state) c.form → Does l n r (claim_put w c.modulus ms g) → Does l n r (claim_congruence w c)
  divided_does ms g n r e p q h =
      put_does (λ st. has_form w st c.form) congruences l n r e
      (does_as l n r (claim_put w c.modulus ms g) (claim_put w c.modulus (made (on_path w l.state) c.form) (replaced (on_path w l.state) c.form)) (λ i. claim_put w c.modulus (p i) (q i)) h)

  pub congruence_never : (n : Followed E) (r : Result (Unit {0}) WalkError) → has_form w l.state c.form ≡ false → Does l n r never → Does l n r (claim_congruence w c)
  congruence_never n r e h = never_does (λ st. has_form w st c.form) congruences l n r e h

  pub congruence_unmade : (e : WalkError) → IsNotPut (on_path w l.state) c.form e → StopsAtStep l e (claim_congruence w c)
  congruence_unmade e h =
      let ms = made (on_path w l.state) c.form in
      let f = replaced (on_path w l.state) c.form in
      let p = multiple (pos c.modulus) (w.notes.quotient (l.state.claims + 1)) in
      unmade_stops (λ st. has_form w st c.form) congruences l ms e
      (λ u go. unfit_goal OfCongruence true (divides_form c.modulus f) (Divided (ms ++ p ∷ []) (minus f p)) l e (unfit_divided e _ _ (before e ms (p ∷ []) u)) (λ st. claim_under (divides_form c.modulus f) f p st go)) h

-- by the product with the quotient that is named
module _ {E : Type 0} (w : Placed E) (m : ℕ) (ms : List Fact) (f : Fact) (l : Followed E) where
  pub product_does : (b : Bool) (p : Fact) (n : Followed E) (r : Result (Unit {0}) WalkError) → b ≡ divides_form m f → p ≡ multiple (pos m) (w.notes.quotient (l.state.claims + 1)) → Does l n r (claim_divided b ms f p) → Does l n r (claim_put w m ms f)
  product_does b p n r d e h =
      let q = multiple (pos m) (w.notes.quotient (l.state.claims + 1)) in
      does_as l n r (claim_divided b ms f p) (claim_divided (divides_form m f) ms f q) (λ i. claim_divided (d i) ms f (e i)) h

  pub product_unfit : (e : WalkError) → IsUnfit e (multiple (pos m) (w.notes.quotient (l.state.claims + 1))) → StopsAtStep l e (claim_put w m ms f)
  product_unfit e h go =
      let p = multiple (pos m) (w.notes.quotient (l.state.claims + 1)) in
      unfit_goal OfCongruence true (divides_form m f) (Divided (ms ++ p ∷ []) (minus f p)) l e (unfit_divided e _ _ (unfit_among e ms [] p h)) (λ st. claim_under (divides_form m f) f p st go)

-- a multiple whose forms were put in the path's terms
module _ {E : Type 0} (w : Placed E) (m : notes.Multiple) (l : Followed E) where
  abbrev multiples : State E → Walk E
  multiples st = claim_product (both_made (on_path w st) m) (replaced (on_path w st) m.form) (small_product (replaced (on_path w st) m.of) (w.notes.quotient (st.claims + 1)))

  pub multiple_does : (ms : List Fact) (f g : Fact) (n : Followed E) (r : Result (Unit {0}) WalkError) → have_forms w l.state m ≡ true → ms ≡ both_made (on_path w l.state) m → f ≡ replaced (on_path w l.state) m.form → g ≡ replaced (on_path w l.state) m.of →
      Does l n r (claim_put_multiple w ms f g) → Does l n r (claim_multiple w m)
  multiple_does ms f g n r e p q d h =
      put_does (λ st. have_forms w st m) multiples l n r e
      (does_as l n r (claim_put_multiple w ms f g) (claim_put_multiple w (both_made (on_path w l.state) m) (replaced (on_path w l.state) m.form) (replaced (on_path w l.state) m.of)) (λ i. claim_put_multiple w (p i) (q i) (d i)) h)

  pub multiple_never : (n : Followed E) (r : Result (Unit {0}) WalkError) → have_forms w l.state m ≡ false → Does l n r never → Does l n r (claim_multiple w m)
  multiple_never n r e h = never_does (λ st. have_forms w st m) multiples l n r e h

  -- whatever the product is
  unfit_product : (o : Option Fact) (f : Fact) (ms : List Fact) (e : WalkError) → AreUnfit e ms → StopsAtStep l e (claim_product ms f o)
  unfit_product None f ms e u = unfit_goal OfCongruence true false (Divided ms (constant (negsuc 0))) l e (unfit_divided e ms _ u)
  unfit_product (Some h) f ms e u = λ go. unfit_goal OfCongruence true false (Divided (ms ++ h ∷ []) (minus f h)) l e (unfit_divided e _ _ (before e ms (h ∷ []) u)) (λ st. claim_under false f h st go)

  pub multiple_unmade : (e : WalkError) → AreNotPut w l.state m e → StopsAtStep l e (claim_multiple w m)
  multiple_unmade e h =
      let ms = both_made (on_path w l.state) m in
      unmade_stops (λ st. have_forms w st m) multiples l ms e (unfit_product (small_product (replaced (on_path w l.state) m.of) (w.notes.quotient (l.state.claims + 1))) (replaced (on_path w l.state) m.form) ms e) h

-- with the product that there is, or without
pub by_product : {E : Type 0} (w : Placed E) (ms : List Fact) (f g : Fact) (l n : Followed E) (r : Result (Unit {0}) WalkError) (o : Option Fact) → small_product g (w.notes.quotient (l.state.claims + 1)) ≡ o → Does l n r (claim_product ms f o) → Does l n r (claim_put_multiple w ms f g)
by_product w ms f g l n r o e h = does_as l n r (claim_product ms f o) (claim_product ms f (small_product g (w.notes.quotient (l.state.claims + 1)))) (λ i. claim_product ms f (sym e i)) h
