use Rattle.std.proofs.Common.{◌+◌, ◌*◌}
use Rattle.opencl_tree.specs.View.{statement, statements}
use Rattle.opencl_jumps.proofs.Weights.{weight, weights}
use Rattle.opencl_jumps.proofs.exits.+needing.Given as goal

abbrev pub decreases-needs_one : goal.decreases-needs_one
decreases-needs_one l = weight (statement l.of.now) * 4

abbrev pub decreases-needs_at : goal.decreases-needs_at
decreases-needs_at l = weight (statement l.of.now) * 4 + 1

abbrev pub decreases-needs : goal.decreases-needs
decreases-needs l = weights (statements l.of.now) * 4

abbrev pub decreases-needs_block : goal.decreases-needs_block
decreases-needs_block l = weights (statements l.of.now) * 4 + 1

abbrev pub decreases-needs_part : goal.decreases-needs_part
decreases-needs_part l = weights (statements l.of.now) * 4 + 2
