use Rattle.std.proofs.Common.{◌≡◌, drop, map}
use Rattle.syntax.specs.View.{parameter}
use Rattle.opencl_core.specs.Heads.{is_given}
use Rattle.opencl_core.proofs.heads.is_given.Given as goal

abbrev pub invariant-loop-parameter : goal.invariant-loop-parameter
invariant-loop-parameter l = is_given l.name (map parameter (drop l.parameter-index l.parameters)) ≡ is_given l.name (map parameter l.parameters)
