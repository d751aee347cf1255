use Rattle.std.proofs.Common.{ℕ}
use Rattle.opencl_core.proofs.owning.+begin_with_list.Given as goal

abbrev pub decreases-begin_with_list : goal.decreases-begin_with_list
decreases-begin_with_list l = l.left
