use Rattle.std.proofs.Common.{◌<◌, ℕ}
use Rattle.semantics.specs.Setup.{group_of, item_count}
use Rattle.semantics.specs.Safety.{Divergent}
use Rattle.machine.specs.Worlds.{setup, world}
use Rattle.machine.proofs.world.World.divergence.Given as goal

abbrev pub invariant-loop-group : goal.invariant-loop-group
invariant-loop-group l = (i j : ℕ) → i < item_count (setup l.self) → j < item_count (setup l.self) → group_of (setup l.self) i < l.group → Divergent (setup l.self) (world l.self) i j → ⊥
