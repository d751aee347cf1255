use Rattle.std.proofs.Common.{ℕ}
use Rattle.opencl_files.proofs.attributes.+trailing.Given as goal

abbrev pub decreases-trailing : goal.decreases-trailing
decreases-trailing l = l.left
