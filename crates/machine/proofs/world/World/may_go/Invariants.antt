use Rattle.std.proofs.Common.{◌≡◌, ◌<◌, ◌+◌, ℕ, true}
use Rattle.machine.specs.Worlds.{items_of, is_alike}
use Rattle.machine.proofs.world.World.may_go.Given as goal

abbrev pub invariant-loop-k : goal.invariant-loop-k
invariant-loop-k l = (j : ℕ) → j < l.k → is_alike (items_of l.self) (l.first + j) l.first ≡ true
