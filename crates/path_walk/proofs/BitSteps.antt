-- Steps of the bits of two operands, composed.
use Rattle.std.proofs.Common.{◌≡◌, ℕ, zero, suc, ◌^◌, ◌<◌, arith, Bool, true, false, ◌&&◌, refl, sym, ap, subst, ◌∙◌}
use Rattle.std.specs.Prelude.{ℤ, pos, negsuc, ◌+ℤ◌, ◌*ℤ◌, int_div, Result, Ok, Err, MatchResult}
use Rattle.std.proofs.lemmas.Int.{ints}
use Rattle.std.proofs.lemmas.Bool.{and_parts}
use Rattle.semantics.specs.Word.{Kind}
use Rattle.linear.specs.Exact.{sum, multiple, fits_i64, fits_terms, fits}
use Rattle.linear.specs.Forms.{form}
use Rattle.linear.specs.declared.form.Form.{Form}
use Rattle.linear.proofs.Lists.{merge-none}
use Rattle.facts.specs.Symbols.{Fact, constant}
use Rattle.facts.specs.Refusals.{IsMemory, IsUnfit}
use Rattle.facts.specs.declared.error.WalkError.{WalkError}
use Rattle.facts.specs.declared.error.WalkError.TheVariants as errors
use Rattle.facts.proofs.Tests.{and_left}
use Rattle.walk_trees.specs.Trees.{Tree}
use Rattle.walk_trees.specs.Walks as walks
use Rattle.walk_trees.specs.Walks.{Setting, State}
use Rattle.walk_trees.specs.Quotients.{quotient, left_by}
use Rattle.walk_trees.specs.Bits.{tell_where, bits_from, with_bit}
use Rattle.path_steps.specs.Paths.{Found, Followed, collect}
use Rattle.path_steps.specs.Leads.{Steps, Leads, LeadsTwo}
use Rattle.path_steps.specs.Refusals.{Refused, StopsAtStep, Stops, StopsTwo}
use Rattle.path_steps.proofs.Refusing.{refused_from}
use Rattle.path_steps.proofs.Told.{tell_stops}
use Rattle.path_walk.specs.BitSteps.{left_run, bit_from, changed}

no_memory : {E : Type 0} (e : WalkError) (m : Found E) → IsMemory e → Refused e m
no_memory e m h = subst (λ x. Refused x m) (sym h) tt

-- a step with an answer, and what follows of it
module _ {E A B T : Type 0} (one : State E → (A → State E → Tree E) → Tree E) (two : A → State E → (B → State E → Tree E) → Tree E) where
  pub turn_says : (a : A) (l m n : Followed E) (view : T → B) (r : Result T WalkError) → Leads l m one a →
      MatchResult r (λ t. Leads m n (two a) (view t)) (λ e. Stops m e (two a)) →
      MatchResult r (λ t. Leads l n (λ st go. one st (λ x st'. two x st' go)) (view t)) (λ e. Stops l e (λ st go. one st (λ x st'. two x st' go)))
  turn_says a l m n view (Ok t) p h = λ go. p (λ x st'. two x st' go) ∙ h go
  turn_says a l m n view (Err e) p h = λ go. refused_from e _ _ (p (λ x st'. two x st' go)) (h go)

-- the bits from a place on
module _ {E : Type 0} (s : Setting E) (k : Kind) (x : Fact) where
  abbrev from_place : ℕ → State E → (Fact → State E → Tree E) → Tree E
  from_place b st go = bits_from s k x b st go

  pub upper_leads : (b : ℕ) (z : ℤ) (q r : Fact) (m n : Followed E) → 0 < b → z ≡ pos (2 ^ b) → LeadsTwo m n (quotient s k x z) q r → Leads m n (from_place b) q
  upper_leads zero z q r m n l e h go = absurd (omega (arith, l))
  upper_leads (suc b) z q r m n l e h go = ap (λ y. collect m.found (quotient s k x y m.state (λ p o st. go p st))) (sym e) ∙ h (λ p o st. go p st)

  pub upper_stops : (b : ℕ) (z : ℤ) (m : Followed E) (e : WalkError) → 0 < b → z ≡ pos (2 ^ b) → StopsTwo m e (quotient s k x z) → Stops m e (from_place b)
  upper_stops zero z m e l d h go = absurd (omega (arith, l))
  upper_stops (suc b) z m e l d h go = refused_from e _ _ (ap (λ y. collect m.found (quotient s k x y m.state (λ p o st. go p st))) (sym d)) (h (λ p o st. go p st))

-- the bits of a run
module _ {E : Type 0} (s : Setting E) (k : Kind) (q : Fact) (b : ℕ) (c : ℤ) where
  placed : (Fact → State E → Tree E) → Fact → State E → Tree E
  placed go r st = go (multiple (pos (2 ^ b)) r) st

  pub run_stops : (z : ℤ) (l : Followed E) (e : WalkError) → z ≡ int_div (c +ℤ pos (2 ^ b)) (pos (2 ^ b)) → Stops l e (left_by s k q z) → Stops l e (left_run s k q b c)
  unfolding placed
  run_stops z l e d h go = refused_from e _ _ (ap (λ y. collect l.found (left_by s k q y l.state (placed go))) (sym d)) (h (placed go))

  pub run_says : (z : ℤ) (x : Fact) (l m : Followed E) (r : Result Form WalkError) → z ≡ int_div (c +ℤ pos (2 ^ b)) (pos (2 ^ b)) → Leads l m (left_by s k q z) x →
      MatchResult r (λ f. form f ≡ multiple (pos (2 ^ b)) x) IsMemory →
      MatchResult r (λ f. Leads l m (left_run s k q b c) (form f)) (λ e. Stops l e (left_run s k q b c))
  unfolding placed
  run_says z x l m (Ok f) d h e = λ go. ap (λ y. collect l.found (left_by s k q y l.state (placed go))) (sym d) ∙ h (placed go) ∙ ap (λ y. collect m.found (go y m.state)) (sym e)
  run_says z x l m (Err w) d h e = λ go. no_memory w (collect l.found (left_run s k q b c l.state go)) e

-- a form at a place
pub at_place_says : {E : Type 0} (walk : State E → (Fact → State E → Tree E) → Tree E) (x : Fact) (l : Followed E) (r : Result Form WalkError) → ((go : Fact → State E → Tree E) → walk l.state go ≡ go x l.state) →
    MatchResult r (λ f. form f ≡ x) IsMemory →
    MatchResult r (λ f. Leads l l walk (form f)) (λ e. Stops l e walk)
at_place_says walk x l (Ok f) d e = λ go. ap (collect l.found) (d go) ∙ ap (λ y. collect l.found (go y l.state)) (sym e)
at_place_says walk x l (Err w) d e = λ go. no_memory w (collect l.found (walk l.state go)) e

-- a fact that is told where that is so
pub retold : {E : Type 0} (s : Setting E) (a b : Bool) (f : Fact) (m n : Followed E) → a ≡ b → Steps m n (tell_where s a f) → Steps m n (tell_where s b f)
retold s a b f m n d h = subst (λ t. Steps m n (tell_where s t f)) d h

pub retold_stops : {E : Type 0} (s : Setting E) (a b : Bool) (f : Fact) (m : Followed E) (e : WalkError) → a ≡ b → StopsAtStep m e (tell_where s a f) → StopsAtStep m e (tell_where s b f)
retold_stops s a b f m e d h = subst (λ t. StopsAtStep m e (tell_where s t f)) d h

-- a new symbol, of which two things are told
module _ {E : Type 0} (s : Setting E) (make : State E → E) (first second : State E → Fact → State E → (State E → Tree E) → Tree E) where
  abbrev pub two_told : State E → (Fact → State E → Tree E) → Tree E
  two_told st go = walks.invent s (make st) st (λ r st1. first st r st1 (λ st2. second st r st2 (λ st3. go r st3)))

  behind : State E → (Fact → State E → Tree E) → Fact → State E → Tree E
  behind st go r st1 = first st r st1 (λ st2. second st r st2 (λ st3. go r st3))

  begun : (x : E) (l : Followed E) → x ≡ make l.state → (go : Fact → State E → Tree E) → collect l.found (two_told l.state go) ≡ collect l.found (walks.invent s x l.state (behind l.state go))
  unfolding behind
  begun x l d go = ap (λ y. collect l.found (walks.invent s y l.state (behind l.state go))) (sym d)

  pub told_leads : (x : E) (r : Fact) (l m n o : Followed E) → x ≡ make l.state → Leads l m (walks.invent s x) r → Steps m n (first l.state r) → Steps n o (second l.state r) → Leads l o two_told r
  unfolding behind
  told_leads x r l m n o d p q w go = begun x l d go ∙ p (behind l.state go) ∙ q (λ st2. second l.state r st2 (λ st3. go r st3)) ∙ w (λ st3. go r st3)

  pub told_new_stops : (x : E) (l : Followed E) (e : WalkError) → x ≡ make l.state → Stops l e (walks.invent s x) → Stops l e two_told
  told_new_stops x l e d h go = refused_from e _ _ (begun x l d go) (h (behind l.state go))

  pub told_first_stops : (x : E) (r : Fact) (l m : Followed E) (e : WalkError) → x ≡ make l.state → Leads l m (walks.invent s x) r → StopsAtStep m e (first l.state r) → Stops l e two_told
  unfolding behind
  told_first_stops x r l m e d p h go = refused_from e _ _ (begun x l d go ∙ p (behind l.state go)) (h (λ st2. second l.state r st2 (λ st3. go r st3)))

  pub told_second_stops : (x : E) (r : Fact) (l m n : Followed E) (e : WalkError) → x ≡ make l.state → Leads l m (walks.invent s x) r → Steps m n (first l.state r) → StopsAtStep n e (second l.state r) → Stops l e two_told
  unfolding behind
  told_second_stops x r l m n e d p q h go = refused_from e _ _ (begun x l d go ∙ p (behind l.state go) ∙ q (λ st2. second l.state r st2 (λ st3. go r st3))) (h (λ st3. go r st3))

-- a new symbol, of which one thing is told
module _ {E : Type 0} (s : Setting E) (make : State E → E) (tell : State E → Fact → State E → (State E → Tree E) → Tree E) where
  abbrev pub once_told : State E → (Fact → State E → Tree E) → Tree E
  once_told st go = walks.invent s (make st) st (λ r st1. tell st r st1 (λ st2. go r st2))

  after_it : State E → (Fact → State E → Tree E) → Fact → State E → Tree E
  after_it st go r st1 = tell st r st1 (λ st2. go r st2)

  made : (x : E) (l : Followed E) → x ≡ make l.state → (go : Fact → State E → Tree E) → collect l.found (once_told l.state go) ≡ collect l.found (walks.invent s x l.state (after_it l.state go))
  unfolding after_it
  made x l d go = ap (λ y. collect l.found (walks.invent s y l.state (after_it l.state go))) (sym d)

  pub once_leads : (x : E) (r : Fact) (l m n : Followed E) → x ≡ make l.state → Leads l m (walks.invent s x) r → Steps m n (tell l.state r) → Leads l n once_told r
  unfolding after_it
  once_leads x r l m n d p q go = made x l d go ∙ p (after_it l.state go) ∙ q (λ st2. go r st2)

  pub once_new_stops : (x : E) (l : Followed E) (e : WalkError) → x ≡ make l.state → Stops l e (walks.invent s x) → Stops l e once_told
  once_new_stops x l e d h go = refused_from e _ _ (made x l d go) (h (after_it l.state go))

  pub once_stops : (x : E) (r : Fact) (l m : Followed E) (e : WalkError) → x ≡ make l.state → Leads l m (walks.invent s x) r → StopsAtStep m e (tell l.state r) → Stops l e once_told
  unfolding after_it
  once_stops x r l m e d p h go = refused_from e _ _ (made x l d go ∙ p (after_it l.state go)) (h (λ st2. go r st2))

-- a form with a bit more or less
module _ {E : Type 0} (s : Setting E) (k : Kind) (x : Fact) (b : ℕ) (t : ℤ) where
  bit_on : (Fact → State E → Tree E) → Fact → State E → Tree E
  bit_on go r st = tell_where s true (changed x b t r) st (λ st3. go (changed x b t r) st3)

  pub bit_leads : (r f : Fact) (l m n : Followed E) → Leads l m (bit_from s k x b) r → f ≡ changed x b t r → Steps m n (tell_where s true f) → Leads l n (with_bit s k x b t) f
  unfolding bit_on
  bit_leads r f l m n p e q go = p (bit_on go) ∙ (λ i. collect m.found (tell_where s true (sym e i) m.state (λ st3. go (sym e i) st3))) ∙ q (λ st3. go f st3)

  pub bit_new_stops : (l : Followed E) (e : WalkError) → Stops l e (bit_from s k x b) → Stops l e (with_bit s k x b t)
  unfolding bit_on
  bit_new_stops l e h go = h (bit_on go)

  pub bit_unfit_stops : (r : Fact) (l m : Followed E) (e : WalkError) → Leads l m (bit_from s k x b) r → IsUnfit e (changed x b t r) → Stops l e (with_bit s k x b t)
  unfolding bit_on
  bit_unfit_stops r l m e p h go = refused_from e _ _ (p (bit_on go)) (tell_stops s (changed x b t r) m e h (λ st3. go (changed x b t r) st3))

  pub bit_told_stops : (r f : Fact) (l m : Followed E) (e : WalkError) → Leads l m (bit_from s k x b) r → f ≡ changed x b t r → StopsAtStep m e (tell_where s true f) → Stops l e (with_bit s k x b t)
  unfolding bit_on
  bit_told_stops r f l m e p d h go = refused_from e _ _ (p (bit_on go) ∙ (λ i. collect m.found (tell_where s true (sym d i) m.state (λ st3. go (sym d i) st3)))) (h (λ st3. go f st3))

-- a form with a number beside it that is no i64
unfit_number : (x : Fact) (z : ℤ) → fits x ≡ true → fits (sum x (constant z)) ≡ false → fits_i64 (x.constant +ℤ z) ≡ false
unfit_number x z h u = by (fits_i64 (x.constant +ℤ z)) (sym (ap (λ ts. fits_i64 (x.constant +ℤ z) && fits_terms ts) (merge-none x.terms)) ∙ u)
  where
    by : (a : Bool) → (a && fits_terms x.terms) ≡ false → a ≡ false
    by true e = sym (and_parts (fits_i64 x.constant) (fits_terms x.terms) h).1 ∙ e
    by false e = refl

pub unfit_changed : (x r : Fact) (b : ℕ) (t : ℤ) (e : WalkError) → fits x ≡ true → r.constant ≡ pos 0 → IsUnfit e (sum x (constant (pos (2 ^ b)))) → IsUnfit e (changed x b t r)
unfit_changed x r b t errors.TooMany h d u = u
unfit_changed x r b t errors.TooLarge h d u =
    let y = x.constant +ℤ pos (2 ^ b) in
    let zero : y ≡ y +ℤ negsuc 0 *ℤ (t *ℤ pos 0) = omega (arith, ints) in
    let same : y ≡ y +ℤ negsuc 0 *ℤ (t *ℤ r.constant) = zero ∙ ap (λ z. y +ℤ negsuc 0 *ℤ (t *ℤ z)) (sym d) in
    and_left _ _ (ap fits_i64 (sym same) ∙ unfit_number x (pos (2 ^ b)) h u)
unfit_changed x r b t errors.Memory h d u = u
