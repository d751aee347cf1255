use Rattle.machine.specs.Worlds.{IsSound}
use Rattle.case_parts.proofs.play.play_rounds.Given as goal

abbrev pub invariant-loop-round : goal.invariant-loop-round
invariant-loop-round l = IsSound l.world
