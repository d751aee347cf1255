use Rattle.machine.specs.Worlds.{IsSound}
use Rattle.explaining.proofs.scene.advance.Given as goal

abbrev pub invariant-loop-event : goal.invariant-loop-event
invariant-loop-event l = IsSound l.world
