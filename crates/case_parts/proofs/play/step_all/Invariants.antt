use Rattle.machine.specs.Worlds.{IsSound}
use Rattle.case_parts.proofs.play.step_all.Given as goal

abbrev pub invariant-loop-item : goal.invariant-loop-item
invariant-loop-item l = IsSound l.world
