use Rattle.std.proofs.Common.{◌≡◌, drop}
use Rattle.core_code.specs.View.{statements}
use Rattle.sound_cores.specs.Sound.{are_within}
use Rattle.sound_cores.specs.View.{declared}
use Rattle.sound_cores.proofs.declaring.+within.Given as goal

abbrev pub invariant-are_within-loop-statement : goal.invariant-are_within-loop-statement
invariant-are_within-loop-statement l = are_within (declared l.d) (statements (drop l.statement-index l.statements)) ≡ are_within (declared l.d) (statements l.statements)
