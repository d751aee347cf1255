use Rattle.std.proofs.Common.{◌≡◌, drop, map}
use Rattle.opencl_files.specs.View.{parameter}
use Rattle.opencl_core.specs.Helpers.{any_stored_to}
use Rattle.opencl_core.proofs.helpers.any_stored_to.Given as goal

abbrev pub invariant-loop-parameter : goal.invariant-loop-parameter
invariant-loop-parameter l = any_stored_to (map parameter (drop l.parameter-index l.parameters)) ≡ any_stored_to (map parameter l.parameters)
