use Rattle.std.proofs.Common.{◌≡◌, drop}
use Rattle.core_code.specs.View.{statements}
use Rattle.opencl_core.specs.Parts.{are_assignments}
use Rattle.opencl_core.proofs.parts.are_assignments.Given as goal

abbrev pub invariant-loop-statement : goal.invariant-loop-statement
invariant-loop-statement l = are_assignments (statements (drop l.statement-index l.of)) ≡ are_assignments (statements l.of)
