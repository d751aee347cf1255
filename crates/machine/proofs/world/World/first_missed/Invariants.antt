use Rattle.std.proofs.Common.{◌≡◌, ◌<◌, ◌+◌, ℕ, false}
use Rattle.machine.specs.Worlds.{items_of, is_apart}
use Rattle.machine.proofs.world.World.first_missed.Given as goal

abbrev pub invariant-loop-k : goal.invariant-loop-k
invariant-loop-k l = (k : ℕ) → k < l.k → is_apart (items_of l.self) l.one (l.first + k) ≡ false
