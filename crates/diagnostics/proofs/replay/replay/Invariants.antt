use Rattle.std.proofs.Common.{◌≡◌, Some, map, take}
use Rattle.semantics.specs.World.{run}
use Rattle.machine.specs.Worlds.{setup, world, event, IsSound}
use Rattle.diagnostics.proofs.replay.replay.Given as goal

abbrev pub invariant-loop-applied : goal.invariant-loop-applied
invariant-loop-applied l =
    (run (setup l.fn.world) (map event (take l.applied l.events)) (world l.fn.world) ≡ Some (world l.world)) × IsSound l.world × (setup l.world ≡ setup l.fn.world)
