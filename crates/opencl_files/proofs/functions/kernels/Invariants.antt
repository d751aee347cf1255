use Rattle.std.proofs.Common.{◌≡◌, [], take, drop}
use Rattle.opencl_files.specs.Functions as functions
use Rattle.opencl_files.specs.View.{chunks, kernels}
use Rattle.opencl_files.proofs.functions.kernels.Given as goal

abbrev pub invariant-loop-at : goal.invariant-loop-at
invariant-loop-at l = functions.kernels [] [] (chunks l.chunks) ≡ functions.kernels (kernels l.found.items) (chunks (take l.at l.chunks)) (chunks (drop l.at l.chunks))
