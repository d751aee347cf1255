-- Rounds of a group in which no item takes more steps than a budget.
use Rattle.std.specs.Prelude.{ℕ, zero, suc, ◌+◌, ◌<◌, ◌≡◌, true}
use Rattle.semantics.specs.Setup.{Setup, group_size, member}
use Rattle.semantics.specs.Memory.{Memory, opening_memory}
use Rattle.semantics.specs.Item.{Item}
use Rattle.semantics.specs.Solo.{opening}
use Rattle.semantics.specs.World.{past, may_go}
use Rattle.semantics.specs.Rounds.{applied, round_stores, after_round}

-- after each round each item has taken fewer steps than this in all
abbrev pub StaysBelow : Setup → ℕ → ℕ → ℕ → (ℕ → Item) → Memory → Type 0
StaysBelow s g fuel zero items m = Unit {0}
StaysBelow s g fuel (suc n) items m =
    ((k : ℕ) → k < group_size s → (after_round s fuel items m (member s g k)).steps < fuel)
    × (may_go s (after_round s fuel items m) g ≡ true → StaysBelow s g fuel n (λ i. past s i (after_round s fuel items m i)) (applied (round_stores s g fuel items m (group_size s)) m))

-- the items of a group take at most so many steps in its rounds
abbrev pub IsWithinBudget : Setup → (bound group : ℕ) → Type 0
IsWithinBudget s bound g = StaysBelow s g (bound + 1) (bound + 1) (opening s) (opening_memory s)
