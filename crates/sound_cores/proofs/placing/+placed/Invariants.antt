use Rattle.std.proofs.Common.{◌≡◌, drop}
use Rattle.core_code.specs.View.{statements}
use Rattle.sound_cores.specs.Sound.{are_placed}
use Rattle.sound_cores.proofs.placing.+placed.Given as goal

abbrev pub invariant-are_placed-loop-statement : goal.invariant-are_placed-loop-statement
invariant-are_placed-loop-statement l = are_placed l.around (statements (drop l.statement-index l.statements)) ≡ are_placed l.around (statements l.statements)
