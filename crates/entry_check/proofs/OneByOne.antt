-- Obligations one by one.
use Rattle.std.proofs.Common.{◌≡◌, ℕ, zero, suc, ◌+◌, ◌<◌, ◌≤◌, List, length, get_or, refl, sym, ap, subst, ◌⊎◌, inl, inr, arith}
use Rattle.std.specs.List.{All}
use Rattle.std.proofs.lemmas.List.Elements.{All-from_get_or}
use Rattle.walk_trees.specs.Trees.{Obligation}
use Rattle.walk_trees.specs.Shown.{IsShownWithProducts}

latest : (i k : ℕ) → k < i + 1 → (k < i) ⊎ (k ≡ i)
latest zero zero h = inr refl
latest zero (suc k) h = absurd (omega arith)
latest (suc i) zero h = inl (omega arith)
latest (suc i) (suc k) h = elim (latest i k (omega arith)) [ inl a ↦ inl (omega arith) | inr a ↦ inr (ap suc a) ]

pub one_more : {P : ℕ → Type 0} (i : ℕ) → ((k : ℕ) → k < i → P k) → P i → (k : ℕ) → k < i + 1 → P k
one_more {P} i f p k h = elim (latest i k h) [ inl a ↦ f k a | inr a ↦ subst P (sym a) p ]

pub all_shown : (os : List Obligation) (d : Obligation) (n : ℕ) → length os ≤ n → ((k : ℕ) → k < n → IsShownWithProducts (get_or os k d)) → All IsShownWithProducts os
all_shown os d n h s = All-from_get_or IsShownWithProducts os d (λ i l. s i (omega (arith, h, l)))
