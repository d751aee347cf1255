-- No loop that is left has turned more often than is said of it.
use Rattle.std.specs.Prelude.{◌≡◌, ℕ, ◌≤◌, ℤ, Bool, true, false, List, [], ◌∷◌}
use Rattle.semantics.specs.Core.{number}
use Rattle.semantics.specs.Item.{Entry, Status, Running, Waiting, Ended, Stopped}
use Rattle.semantics.specs.Setup.{Setup}
use Rattle.semantics.specs.Solo.{after}

abbrev pub was_stopped : Status → Bool
was_stopped Running = false
was_stopped Waiting = false
was_stopped Ended = false
was_stopped (Stopped f site) = true

abbrev pub AreWithin : (turns : ℕ → ℕ) → List Entry → Type 0
AreWithin turns [] = Unit {0}
AreWithin turns (e ∷ r) = (e.turns ≤ turns (number e.statement)) × AreWithin turns r

-- nor at any moment of a solo run up to there: each time that a loop is entered, its test is true at most so often
abbrev pub AlwaysWithin : (turns : ℕ → ℕ) → Setup → (item : ℕ) → List ℤ → Type 0
AlwaysWithin turns s i [] = Unit {0}
AlwaysWithin turns s i (z ∷ ws) = (was_stopped (after s i (z ∷ ws)).status ≡ false → AreWithin turns (after s i (z ∷ ws)).left) × AlwaysWithin turns s i ws
