-- Components by their places.
use Rattle.std.proofs.Common.{◌≡◌, ◌<◌, ◌≤◌, ◌-◌, subst, sym, IfOk, Result, slice_index_or, ℕ, zero, suc, List, [], ◌∷◌, ◌++◌, length, map, get_or, refl, arith}
use Rattle.std.proofs.lemmas.List.{length-map}
use Rattle.core_code.specs.View.{term}
use Rattle.core_code.specs.declared.tree.Term.{Term}
use Rattle.semantics.specs.Core as core
use Rattle.opencl_values.specs.Wholes.{last_with, nth_with}

pub last_with-snoc : (t : core.Term) (ts : List Term) (u : Term) → last_with t (map term (ts ++ u ∷ [])) ≡ term u
last_with-snoc t [] u = refl
last_with-snoc t (x ∷ xs) u = last_with-snoc (term x) xs u

pub ruleset last_term = (last_with-snoc)

pub nth_with-none : (t : core.Term) (ts : List Term) (n : ℕ) → length ts ≡ 0 → nth_with t (map term ts) n ≡ t
nth_with-none t [] n h = refl
nth_with-none t (x ∷ xs) n h = absurd (omega arith)

pub nth_with-at : (t : core.Term) (ts : List Term) (n : ℕ) (d : Term) → n < length ts → nth_with t (map term ts) n ≡ term (get_or ts n d)
nth_with-at t [] n d h = absurd (omega arith)
nth_with-at t (x ∷ xs) zero d h = refl
nth_with-at t (x ∷ xs) (suc n) d h = nth_with-at (term x) xs n d (omega arith)

nth_with-last : (t : core.Term) (ts : List Term) (n k : ℕ) (d : Term) → length ts ≡ suc k → suc k ≤ n → nth_with t (map term ts) n ≡ term (get_or ts k d)
nth_with-last t [] n k d h g = absurd (omega arith)
nth_with-last t (x ∷ []) zero k d h g = absurd (omega arith)
nth_with-last t (x ∷ []) (suc n) zero d h g = refl
nth_with-last t (x ∷ []) (suc n) (suc k) d h g = absurd (omega arith)
nth_with-last t (x ∷ y ∷ ys) zero k d h g = absurd (omega arith)
nth_with-last t (x ∷ y ∷ ys) (suc n) zero d h g = absurd (omega arith)
nth_with-last t (x ∷ y ∷ ys) (suc n) (suc k) d h g = nth_with-last (term x) (y ∷ ys) n k d (omega arith) (omega arith)

pub nth_with-past : (t : core.Term) (ts : List Term) (n : ℕ) (d : Term) → 0 < length ts → length ts ≤ n → nth_with t (map term ts) n ≡ term (get_or ts (length ts - 1) d)
nth_with-past t ts n d h g = nth_with-last t ts n (length ts - 1) d (omega arith) (omega arith)

pub nth_with-is : (t : core.Term) (ts : List Term) (n : ℕ) (u : Term) → n < length ts → u ≡ slice_index_or ts n u → nth_with t (map term ts) n ≡ term u
nth_with-is t ts n u h e = subst (λ w. nth_with t (map term ts) n ≡ term w) (sym e) (nth_with-at t ts n u h)

pub nth_with-last-is : (t : core.Term) (ts : List Term) (n : ℕ) (u : Term) → (length ts ≡ 0 → ⊥) → length ts ≤ n → u ≡ slice_index_or ts (length ts - 1) u → nth_with t (map term ts) n ≡ term u
nth_with-last-is t [] n u h g e = absurd (h refl)
nth_with-last-is t (x ∷ xs) n u h g e = subst (λ w. nth_with t (map term (x ∷ xs)) n ≡ term w) (sym e) (nth_with-past t (x ∷ xs) n u (omega arith) g)

pub given : {E : Type 0} (r : Result Term E) (y z : core.Term) → y ≡ z → IfOk r (λ t. term t ≡ z) → IfOk r (λ t. term t ≡ y)
given r y z e h = subst (λ w. IfOk r (λ t. term t ≡ w)) (sym e) h

pub ruleset one_term = (nth_with-none, nth_with-at, nth_with-past)

pub ruleset lengths = (length-map)
