use Rattle.std.proofs.Common.{◌≡◌, drop}
use Rattle.core_code.specs.View.{statements}
use Rattle.sound_cores.specs.Sound.{are_assignments}
use Rattle.sound_cores.proofs.placing.are_assignments.Given as goal

abbrev pub invariant-loop-statement : goal.invariant-loop-statement
invariant-loop-statement l = are_assignments (statements (drop l.statement-index l.statements)) ≡ are_assignments (statements l.statements)
