use Rattle.machine.specs.Worlds.{IsSound}
use Rattle.case_parts.proofs.play.release_all.Given as goal

abbrev pub invariant-loop-group : goal.invariant-loop-group
invariant-loop-group l = IsSound l.world
