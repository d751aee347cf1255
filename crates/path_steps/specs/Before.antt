-- How much of a path stands before its claims, accesses and ends.
use Rattle.std.specs.Prelude.{ℕ, ◌≤◌}
use Rattle.path_steps.specs.declared.path.Claim.{Claim}
use Rattle.path_steps.specs.declared.path.Access.{Access}
use Rattle.path_steps.specs.declared.path.Arrived.{Arrived}

-- at most so many facts
abbrev pub HasFacts : ℕ → Claim → Type 0
HasFacts n c = c.facts ≤ n

-- at most so many facts, new symbols and narrowed elements
abbrev pub HasAll : (facts news narrowed : ℕ) → Access → Type 0
HasAll n m k a = (a.facts ≤ n) × ((a.news ≤ m) × (a.narrowed ≤ k))

abbrev pub EndHasAll : (facts news narrowed : ℕ) → Arrived → Type 0
EndHasAll n m k a = (a.facts ≤ n) × ((a.news ≤ m) × (a.narrowed ≤ k))
