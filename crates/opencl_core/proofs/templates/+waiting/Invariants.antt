use Rattle.std.proofs.Common.{◌≡◌, drop}
use Rattle.core_code.specs.View.{statements}
use Rattle.opencl_core.specs.Templates.{any_waits}
use Rattle.opencl_core.proofs.templates.+waiting.Given as goal

abbrev pub invariant-any_waits-loop-statement : goal.invariant-any_waits-loop-statement
invariant-any_waits-loop-statement l = any_waits (statements (drop l.statement-index l.of)) ≡ any_waits (statements l.of)
