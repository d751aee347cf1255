use Rattle.std.proofs.Common.{◌+◌, ◌*◌}
use Rattle.opencl_tree.specs.View.{expression}
use Rattle.opencl_jumps.proofs.Weights.{size}
use Rattle.opencl_jumps.proofs.labels.+copying.Given as goal

abbrev pub decreases-copy : goal.decreases-copy
decreases-copy l = size (expression l.of.now) * 2

abbrev pub decreases-copied_prefix : goal.decreases-copied_prefix
decreases-copied_prefix l = size (expression l.of.now) * 2 + 1

abbrev pub decreases-copied_infix : goal.decreases-copied_infix
decreases-copied_infix l = (size (expression l.left.now) + size (expression l.right.now)) * 2 + 1
