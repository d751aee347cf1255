use Rattle.std.proofs.Common.{◌≡◌, ◌<◌, ◌+◌, ℕ, false}
use Rattle.semantics.specs.World.{waits}
use Rattle.machine.specs.Worlds.{items_of}
use Rattle.machine.proofs.world.World.first_waiting.Given as goal

abbrev pub invariant-loop-k : goal.invariant-loop-k
invariant-loop-k l = (k : ℕ) → k < l.k → waits (items_of l.self (l.first + k)).status ≡ false
