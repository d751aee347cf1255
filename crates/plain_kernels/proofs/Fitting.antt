-- Tame trees have one path, which leads to the kernel's end, and all of their forms are of i64.
use Rattle.std.proofs.Common.{◌≡◌, ℕ, suc, ◌&&◌, Bool, true, false, List, [], ◌∷◌, ◌++◌, arith, refl, sym, subst}
use Rattle.std.specs.Prelude.{negsuc}
use Rattle.linear.specs.Exact.{fits}
use Rattle.linear.proofs.Sizes.{size_difference, fits_small}
use Rattle.facts.specs.Symbols.{Fact, constant, denial}
use Rattle.arrivals.specs.Trees.{AtEnd}
use Rattle.walk_trees.specs.Trees as trees
use Rattle.walk_trees.specs.Trees.{Goal, AtLeastZero, Either, Replaced, Divided, Tree, Leaf, Dead, Claim, Know, Touch, Fork, leaves, Obligation, Access, Ended}
use Rattle.walk_trees.proofs.Each.{Each}
use Rattle.walk_trees.specs.Fitting.{goal_fits, tree_fits, denials_fit, tree_denials_fit}
use Rattle.plain_kernels.specs.Forks.{has_fork}
use Rattle.plain_kernels.proofs.Trees.{IsSmall, IsSmallGoal, IsRight, IsTame}

pub two : (a b : Bool) → a ≡ true → b ≡ true → (a && b) ≡ true
two true b p q = q
two false b p q = cc

pub small-fits : (f : Fact) → IsSmall f → fits f ≡ true
small-fits f h = fits_small f (omega (arith, h))

denial-fits : (f : Fact) → IsSmall f → fits (denial f) ≡ true
denial-fits f h = fits_small (denial f) (omega (arith, h, size_difference (constant (negsuc 0)) f))

small-goal-fits : (g : Goal) → IsSmallGoal g → goal_fits g ≡ true
small-goal-fits (AtLeastZero f) h = small-fits f h
small-goal-fits (Either p n) h = two (fits p) (fits n) (small-fits p h.0) (small-fits n h.1)
small-goal-fits (Replaced made f) h = absurd h
small-goal-fits (Divided made f) h = absurd h

small-denials-fit : (g : Goal) → IsSmallGoal g → denials_fit g ≡ true
small-denials-fit (AtLeastZero f) h = denial-fits f h
small-denials-fit (Either p n) h = two (fits (denial p)) (fits (denial n)) (denial-fits p h.0) (denial-fits n h.1)
small-denials-fit (Replaced made f) h = absurd h
small-denials-fit (Divided made f) h = absurd h

abbrev pub IsSmallAccess : {E : Type 0} → Access E → Type 0
IsSmallAccess a = IsSmall a.index

-- obligations one by one with their marks, those past the marks aside
abbrev pub AreRight : (h : ℕ → Bool) (signed : Type 0) (ranges : List Bool) (n : ℕ) → List Obligation → Type 0
AreRight h signed [] n os = Unit {0}
AreRight h signed (r ∷ rs) n [] = ⊥
AreRight h signed (r ∷ rs) n (o ∷ os) = IsRight h signed r (suc n) o.needed o.settled × AreRight h signed rs (suc n) os

-- of a tame tree
module _ {E : Type 0} (h : ℕ → Bool) (signed : Type 0) where
  pub tame-fits : (rs : List Bool) (n : ℕ) (t : Tree E) → IsTame h signed rs n t → tree_fits n t ≡ true
  tame-fits rs n (Leaf e) t = refl
  tame-fits rs n Dead t = absurd t
  tame-fits [] n (Claim o needed settled g rest) t = absurd t
  tame-fits (r ∷ rs) n (Claim o needed settled g rest) t = two (goal_fits g) (tree_fits (suc n) rest) (small-goal-fits g t.0) (tame-fits rs (suc n) rest t.2)
  tame-fits rs n (Know f rest) t = two (fits f) (tree_fits n rest) (small-fits f t.0) (tame-fits rs n rest t.1)
  tame-fits rs n (Touch a i d rest) t = two (fits i) (tree_fits n rest) (small-fits i t.0) (tame-fits rs n rest t.1)
  tame-fits rs n (Fork first second) t = absurd t

  pub tame-path : (rs : List Bool) (n : ℕ) (t : Tree E) → IsTame h signed rs n t → (leaves n t ≡ 1) × (has_fork t ≡ false)
  tame-path rs n (Leaf e) t = (refl, refl)
  tame-path rs n Dead t = absurd t
  tame-path [] n (Claim o needed settled g rest) t = absurd t
  tame-path (r ∷ rs) n (Claim o needed settled g rest) t = tame-path rs (suc n) rest t.2
  tame-path rs n (Know f rest) t = tame-path rs n rest t.1
  tame-path rs n (Touch a i d rest) t = tame-path rs n rest t.1
  tame-path rs n (Fork first second) t = absurd t

  pub tame-denials : (rs : List Bool) (n : ℕ) (t : Tree E) → IsTame h signed rs n t → tree_denials_fit n t ≡ true
  tame-denials rs n (Leaf e) t = refl
  tame-denials rs n Dead t = absurd t
  tame-denials [] n (Claim o needed settled g rest) t = absurd t
  tame-denials (r ∷ rs) n (Claim o needed settled g rest) t = two (denials_fit g) (tree_denials_fit (suc n) rest) (small-denials-fit g t.0) (tame-denials rs (suc n) rest t.2)
  tame-denials rs n (Know f rest) t = tame-denials rs n rest t.1
  tame-denials rs n (Touch a i d rest) t = tame-denials rs n rest t.1
  tame-denials rs n (Fork first second) t = absurd t

  pub small-accesses : (rs : List Bool) (n : ℕ) (facts : List Fact) (t : Tree E) → IsTame h signed rs n t → Each IsSmallAccess (trees.accesses facts n t)
  small-accesses rs n facts (Leaf e) t = tt
  small-accesses rs n facts Dead t = absurd t
  small-accesses [] n facts (Claim o needed settled g rest) t = absurd t
  small-accesses (r ∷ rs) n facts (Claim o needed settled g rest) t = small-accesses rs (suc n) facts rest t.2
  small-accesses rs n facts (Know f rest) t = small-accesses rs n _ rest t.1
  small-accesses rs n facts (Touch a i d rest) t = (t.0, small-accesses rs n facts rest t.1)
  small-accesses rs n facts (Fork first second) t = absurd t

  pub tame-end : (rs : List Bool) (n : ℕ) (facts : List Fact) (t : Tree E) → IsTame h signed rs n t → (u : Ended E) × (trees.ends facts n t ≡ u ∷ []) × (u.arrived.stop ≡ AtEnd)
  tame-end rs n facts (Leaf e) t = (record { arrived = e; facts = facts }, refl, t.1)
  tame-end rs n facts Dead t = absurd t
  tame-end [] n facts (Claim o needed settled g rest) t = absurd t
  tame-end (r ∷ rs) n facts (Claim o needed settled g rest) t = tame-end rs (suc n) facts rest t.2
  tame-end rs n facts (Know f rest) t = tame-end rs n _ rest t.1
  tame-end rs n facts (Touch a i d rest) t = tame-end rs n facts rest t.1
  tame-end rs n facts (Fork first second) t = absurd t

  pub claims-right : (rs : List Bool) (n : ℕ) (launch facts : List Fact) (t : Tree E) (more : List Obligation) → IsTame h signed rs n t → AreRight h signed rs n (trees.claims launch facts n t ++ more)
  claims-right rs n launch facts (Leaf e) more t = subst (λ l. AreRight h signed l n more) (sym t.0) tt
  claims-right rs n launch facts Dead more t = absurd t
  claims-right [] n launch facts (Claim o needed settled g rest) more t = absurd t
  claims-right (r ∷ rs) n launch facts (Claim o needed settled g rest) more t = (t.1, claims-right rs (suc n) launch facts rest more t.2)
  claims-right rs n launch facts (Know f rest) more t = claims-right rs n launch _ rest more t.1
  claims-right rs n launch facts (Touch a i d rest) more t = claims-right rs n launch facts rest more t.1
  claims-right rs n launch facts (Fork first second) more t = absurd t
