use Rattle.std.proofs.Common.{◌≡◌, [], drop}
use Rattle.opencl_files.specs.Functions as functions
use Rattle.opencl_files.specs.View.{kernels}
use Rattle.opencl_files.proofs.functions.of_name.Given as goal

abbrev pub invariant-loop-kernel : goal.invariant-loop-kernel
invariant-loop-kernel l = functions.of_name l.name [] (kernels l.kernels) ≡ functions.of_name l.name (kernels l.found.items) (kernels (drop l.kernel-index l.kernels))
