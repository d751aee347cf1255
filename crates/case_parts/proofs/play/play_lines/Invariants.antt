use Rattle.machine.specs.Worlds.{IsSound}
use Rattle.case_parts.proofs.play.play_lines.Given as goal

abbrev pub invariant-loop-line : goal.invariant-loop-line
invariant-loop-line l = IsSound l.world
