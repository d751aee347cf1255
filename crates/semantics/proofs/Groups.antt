-- The items of a group.
use Rattle.std.proofs.Common.{◌≡◌, ◌<◌, ◌+◌, ◌*◌, ◌/◌, ◌%◌, ℕ, zero, suc, Bool, true, false, ◌&&◌, refl, ap, ◌∙◌, arith, inl, inr}
use Rattle.semantics.specs.Setup.{Setup, group_size, group_count, group_of, item_count, member}
use Rattle.std.proofs.lemmas.Bool.{cases_eq}
use Rattle.semantics.specs.World.{every}

pub factor-pos : (i a b : ℕ) → i < a * b → 0 < b
factor-pos i a zero h = absurd (omega arith)
factor-pos i a (suc b) h = omega arith

pub group_size-pos : (s : Setup) (i : ℕ) → i < item_count s → 0 < group_size s
group_size-pos s i h = factor-pos i (group_count s) (group_size s) h

quotient : (g k n : ℕ) → k < n → (g * n + k) / n ≡ g
quotient g k n h = grind arith

pub group_of-member : (s : Setup) (g k : ℕ) → k < group_size s → group_of s (member s g k) ≡ g
group_of-member s g k h = quotient g k (group_size s) h

pub member-of : (s : Setup) (i : ℕ) → 0 < group_size s → member s (group_of s i) (i % group_size s) ≡ i
member-of s i h = omega arith

pub place-below : (s : Setup) (i : ℕ) → 0 < group_size s → i % group_size s < group_size s
place-below s i h = omega arith

below : (g k a b : ℕ) → g < a → k < b → g * b + k < a * b
below g k a b hg hk = grind arith

pub member-below : (s : Setup) (g k : ℕ) → g < group_count s → k < group_size s → member s g k < item_count s
member-below s g k hg hk = below g k (group_count s) (group_size s) hg hk

pub quotient-below : (i a b : ℕ) → i < a * b → i / b < a
quotient-below i a b h = grind arith

pub group-below : (s : Setup) (i : ℕ) → i < item_count s → group_of s i < group_count s
group-below s i h = quotient-below i (group_count s) (group_size s) h

pub both-true : (a b : Bool) → (a && b) ≡ true → (a ≡ true) × (b ≡ true)
both-true true true h = (refl, refl)
both-true true false h = cc
both-true false b h = cc

pub every-at : (n : ℕ) (test : ℕ → Bool) (k : ℕ) → every n test ≡ true → k < n → test k ≡ true
every-at zero test k h lt = absurd (omega arith)
every-at (suc n) test k h lt =
    let e = both-true (test n) (every n test) h in
    elim (cases_eq k n) [ inl same ↦ ap test same ∙ e.0 | inr other ↦ every-at n test k e.1 (omega (arith, other)) ]

pub every-by : (n : ℕ) (test : ℕ → Bool) → ((k : ℕ) → k < n → test k ≡ true) → every n test ≡ true
every-by zero test h = refl
every-by (suc n) test h = rw (h n (omega arith), every-by n test (λ k lt. h k (omega arith))) refl

remainder : (g k n : ℕ) → k < n → (g * n + k) % n ≡ k
remainder g k n h = grind arith

pub place-member : (s : Setup) (g k : ℕ) → k < group_size s → member s g k % group_size s ≡ k
place-member s g k h = remainder g k (group_size s) h
