-- Quotients: a new symbol, and what it leaves.
use Rattle.std.proofs.Common.{◌≡◌, ◌<◌, ◌^◌, ◌*◌, true, false, sym, ap, subst, ◌∙◌, arith}
use Rattle.std.specs.Prelude.{ℤ, pos, negsuc, ◌<ℤ◌, ◌-ℤ◌, unsigned_abs, cond, Result, Ok, Err, MatchResult}
use Rattle.std.proofs.lemmas.Int.{ints}
use Rattle.std.proofs.lemmas.Bool.Decides.{nat_tests}
use Rattle.semantics.specs.Word.{Kind}
use Rattle.linear.specs.Exact.{fits_i64, multiple}
use Rattle.linear.specs.Sizes.{size}
use Rattle.linear.specs.Forms.{form}
use Rattle.linear.specs.declared.form.Form.{Form}
use Rattle.linear.proofs.Sizes.{size_multiple}
use Rattle.facts.specs.Symbols.{Fact, constant, minus}
use Rattle.facts.specs.Elements.{between}
use Rattle.facts.specs.Refusals.{IsUnfit}
use Rattle.facts.specs.declared.error.WalkError.{WalkError}
use Rattle.walk_trees.specs.Trees.{Tree, Know}
use Rattle.walk_trees.specs.Walks as walks
use Rattle.walk_trees.specs.Walks.{Setting, State}
use Rattle.walk_trees.specs.Quotients as quotients
use Rattle.walk_trees.specs.Quotients.{left_over}
use Rattle.path_steps.specs.Paths.{Followed, collect, with_fact}
use Rattle.path_steps.specs.Leads.{Leads, LeadsTwo}
use Rattle.path_steps.specs.Refusals.{Stops, StopsTwo}
use Rattle.path_steps.proofs.Refusing.{unfit_fact, refused_from}
use Rattle.path_steps.proofs.Leading.{knows}

small_number : (n : ℤ) → pos 0 <ℤ n → fits_i64 n ≡ true → unsigned_abs n < 2 ^ 63
small_number (pos n) h k = grind (arith, nat_tests)
small_number (negsuc n) h k = absurd (omega (arith, ints, h))

pub small_times : (n : ℤ) (f : Fact) → pos 0 <ℤ n → fits_i64 n ≡ true → size f ≡ 1 → size (multiple n f) < 2 ^ 63
small_times n f h k d = let e = size_multiple n f ∙ ap (λ m. unsigned_abs n * m) d in omega (arith, e, small_number n h k)

module _ {E : Type 0} (s : Setting E) (k : Kind) (x : Fact) (c : ℤ) where
  -- the facts of a quotient
  pub two_facts : (q left : Fact) (m n o : Followed E) → left ≡ left_over x c q → n ≡ with_fact m (left_over x c q) → o ≡ with_fact n (minus (constant (c -ℤ pos 1)) left) → (rest : Tree E) →
      collect m.found (Know (left_over x c q) (Know (minus (constant (c -ℤ pos 1)) (left_over x c q)) rest)) ≡ collect o.found rest
  two_facts q left m n o d e f rest =
      knows (left_over x c q) m n e (Know (minus (constant (c -ℤ pos 1)) (left_over x c q)) rest)
      ∙ knows (minus (constant (c -ℤ pos 1)) (left_over x c q)) n o (f ∙ ap (λ y. with_fact n (minus (constant (c -ℤ pos 1)) y)) d) rest

  pub quotient_leads : (element : E) (q left : Fact) (l m n o : Followed E) → element ≡ walks.any_of s.domain k → Leads l m (walks.invent s element) q → left ≡ left_over x c q → n ≡ with_fact m (left_over x c q) → o ≡ with_fact n (minus (constant (c -ℤ pos 1)) left) →
      LeadsTwo l o (quotients.quotient s k x c) q left
  quotient_leads element q left l m n o a h d e f go =
      let on : Fact → State E → Tree E = λ p st. Know (left_over x c p) (Know (minus (constant (c -ℤ pos 1)) (left_over x c p)) (go p (left_over x c p) st)) in
      ap (λ y. collect l.found (walks.invent s y l.state on)) (sym a)
      ∙ h on ∙ two_facts q left m n o d e f (go q (left_over x c q) m.state)
      ∙ (λ i. collect o.found (go q (sym d i) (same i)))
    where
      same : m.state ≡ o.state
      same = ap (λ (u : Followed E). u.state) (sym e) ∙ ap (λ (u : Followed E). u.state) (sym f)

  pub quotient_new_stops : (element : E) (l : Followed E) (e : WalkError) → element ≡ walks.any_of s.domain k → Stops l e (walks.invent s element) → StopsTwo l e (quotients.quotient s k x c)
  quotient_new_stops element l e a h go =
      let on : Fact → State E → Tree E = λ p st. Know (left_over x c p) (Know (minus (constant (c -ℤ pos 1)) (left_over x c p)) (go p (left_over x c p) st)) in
      refused_from e _ _ (ap (λ y. collect l.found (walks.invent s y l.state on)) (sym a)) (h on)

  pub quotient_left_stops : (element : E) (q : Fact) (l m : Followed E) (e : WalkError) → element ≡ walks.any_of s.domain k → Leads l m (walks.invent s element) q → IsUnfit e (left_over x c q) → StopsTwo l e (quotients.quotient s k x c)
  quotient_left_stops element q l m e a h u go =
      let on : Fact → State E → Tree E = λ p st. Know (left_over x c p) (Know (minus (constant (c -ℤ pos 1)) (left_over x c p)) (go p (left_over x c p) st)) in
      refused_from e _ _ (ap (λ y. collect l.found (walks.invent s y l.state on)) (sym a) ∙ h on)
      (unfit_fact e m.found (left_over x c q) (Know (minus (constant (c -ℤ pos 1)) (left_over x c q)) (go q (left_over x c q) m.state)) u)

  pub quotient_under_stops : (element : E) (q left : Fact) (l m n : Followed E) (e : WalkError) → element ≡ walks.any_of s.domain k → Leads l m (walks.invent s element) q → left ≡ left_over x c q → n ≡ with_fact m (left_over x c q) → IsUnfit e (minus (constant (c -ℤ pos 1)) left) → StopsTwo l e (quotients.quotient s k x c)
  quotient_under_stops element q left l m n e a h d t u go =
      let on : Fact → State E → Tree E = λ p st. Know (left_over x c p) (Know (minus (constant (c -ℤ pos 1)) (left_over x c p)) (go p (left_over x c p) st)) in
      refused_from e _ _ (ap (λ y. collect l.found (walks.invent s y l.state on)) (sym a) ∙ h on ∙ knows (left_over x c q) m n t (Know (minus (constant (c -ℤ pos 1)) (left_over x c q)) (go q (left_over x c q) m.state)))
      (unfit_fact e n.found (minus (constant (c -ℤ pos 1)) (left_over x c q)) (go q (left_over x c q) m.state) (subst (λ y. IsUnfit e (minus (constant (c -ℤ pos 1)) y)) d u))

-- what a quotient leaves, as a new symbol
module _ {E : Type 0} (s : Setting E) (element : E) (left : Fact) where
  named_on : (Fact → State E → Tree E) → Fact → State E → Tree E
  named_on go r st = Know (minus left r) (Know (minus r left) (go r st))

  named_second : (r : Fact) (l m n : Followed E) → Leads l m (walks.invent s element) r → n ≡ with_fact m (minus left r) →
      (go : Fact → State E → Tree E) → collect l.found (quotients.named_by s element left l.state go) ≡ collect n.found (Know (minus r left) (go r m.state))
  unfolding named_on
  named_second r l m n h d go = h (named_on go) ∙ knows (minus left r) m n d (Know (minus r left) (go r m.state))

  pub named_leads : (r : Fact) (l m n o : Followed E) → Leads l m (walks.invent s element) r → n ≡ with_fact m (minus left r) → o ≡ with_fact n (minus r left) → Leads l o (quotients.named_by s element left) r
  named_leads r l m n o h d e go =
      named_second r l m n h d go ∙ knows (minus r left) n o e (go r m.state) ∙ ap (λ st. collect o.found (go r st)) same
    where
      same : m.state ≡ o.state
      same = ap (λ (u : Followed E). u.state) (sym d) ∙ ap (λ (u : Followed E). u.state) (sym e)

  pub named_new_stops : (l : Followed E) (e : WalkError) → Stops l e (walks.invent s element) → Stops l e (quotients.named_by s element left)
  unfolding named_on
  named_new_stops l e h go = h (named_on go)

  pub named_first_stops : (r : Fact) (l m : Followed E) (e : WalkError) → Leads l m (walks.invent s element) r → IsUnfit e (minus left r) → Stops l e (quotients.named_by s element left)
  unfolding named_on
  named_first_stops r l m e h u go =
      refused_from e _ _ (h (named_on go)) (unfit_fact e m.found (minus left r) (Know (minus r left) (go r m.state)) u)

  pub named_second_stops : (r : Fact) (l m n : Followed E) (e : WalkError) → Leads l m (walks.invent s element) r → n ≡ with_fact m (minus left r) → IsUnfit e (minus r left) → Stops l e (quotients.named_by s element left)
  named_second_stops r l m n e h d u go =
      refused_from e _ _ (named_second r l m n h d go) (unfit_fact e n.found (minus r left) (go r m.state) u)

-- from 0 up to below a number
pub named_as : {E : Type 0} (s : Setting E) (c : ℤ) (left : Fact) (element : E) (l m : Followed E) (r : Result Form WalkError) → element ≡ between s.domain (pos 0) (c -ℤ pos 1) →
    MatchResult r (λ f. Leads l m (quotients.named_by s element left) (form f)) (λ e. Stops l e (quotients.named_by s element left)) →
    MatchResult r (λ f. Leads l m (quotients.named s c left) (form f)) (λ e. Stops l e (quotients.named s c left))
named_as s c left element l m r d h = subst (λ x. MatchResult r (λ f. Leads l m (quotients.named_by s x left) (form f)) (λ e. Stops l e (quotients.named_by s x left))) d h

-- what is left, named or not
module _ {E : Type 0} (s : Setting E) (k : Kind) (x : Fact) (c : ℤ) where
  left_on : (Fact → State E → Tree E) → Fact → Fact → State E → Tree E
  left_on go q r st = cond s.is_wide (quotients.named s c r st go) (go r st)

  pub left_named : (q left : Fact) (l m n : Followed E) (r : Result Form WalkError) → LeadsTwo l m (quotients.quotient s k x c) q left → s.is_wide ≡ true →
      MatchResult r (λ f. Leads m n (quotients.named s c left) (form f)) (λ e. Stops m e (quotients.named s c left)) →
      MatchResult r (λ f. Leads l n (quotients.left_by s k x c) (form f)) (λ e. Stops l e (quotients.left_by s k x c))
  unfolding left_on
  left_named q left l m n (Ok f) h w a = λ go. h (left_on go) ∙ ap (λ b. collect m.found (cond b (quotients.named s c left m.state go) (go left m.state))) w ∙ a go
  left_named q left l m n (Err e) h w a = λ go. refused_from e _ _ (h (left_on go) ∙ ap (λ b. collect m.found (cond b (quotients.named s c left m.state go) (go left m.state))) w) (a go)

  pub left_alone : (q left : Fact) (l m : Followed E) → LeadsTwo l m (quotients.quotient s k x c) q left → s.is_wide ≡ false → Leads l m (quotients.left_by s k x c) left
  unfolding left_on
  left_alone q left l m h w go = h (left_on go) ∙ ap (λ b. collect m.found (cond b (quotients.named s c left m.state go) (go left m.state))) w

  pub left_stops : (l : Followed E) (e : WalkError) → StopsTwo l e (quotients.quotient s k x c) → Stops l e (quotients.left_by s k x c)
  unfolding left_on
  left_stops l e h go = h (left_on go)
