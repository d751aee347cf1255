use Rattle.std.proofs.Common.{ℕ}
use Rattle.opencl_core.proofs.owning.+begin_with_zeros.Given as goal

abbrev pub decreases-begin_with_zeros : goal.decreases-begin_with_zeros
decreases-begin_with_zeros l = l.left
