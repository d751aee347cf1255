use Rattle.std.proofs.Common.{◌≡◌, ◌≤◌, ◌+◌, ◌*◌, length}
use Rattle.opencl_tree.specs.View.{statement, statements}
use Rattle.opencl_jumps.specs.Leaving.{leave}
use Rattle.opencl_jumps.specs.View.{exit}
use Rattle.opencl_jumps.proofs.Weights.{weight, weights}
use Rattle.opencl_jumps.proofs.leaving.+leaving.Given as goal

abbrev pub decreases-leave : goal.decreases-leave
decreases-leave l = weights (statements l.body.items) * 4

abbrev pub decreases-leave_at : goal.decreases-leave_at
decreases-leave_at l = weight (statement l.statement) * 4 + 2

abbrev pub decreases-leave_one : goal.decreases-leave_one
decreases-leave_one l = weight (statement l.statement) * 4 + 1

abbrev pub decreases-leave_if : goal.decreases-leave_if
decreases-leave_if l = (weights (statements l.parts.0.items) + weights (statements l.parts.1.items)) * 4 + 3

abbrev pub decreases-leave_part : goal.decreases-leave_part
decreases-leave_part l = weights (statements l.part.items) * 4 + 2

abbrev pub decreases-leave_block : goal.decreases-leave_block
decreases-leave_block l = weights (statements l.part.items) * 4 + 1

abbrev pub invariant-leave-loop-statement : goal.invariant-leave-loop-statement
invariant-leave-loop-statement l =
    (leave (exit l.by) l.flagged (statements l.left.items) (statements l.so.items) ≡ leave (exit l.by) l.flagged (statements l.fn.body.items) (statements l.fn.behind.items))
    × (weights (statements l.left.items) ≤ weights (statements l.fn.body.items))

abbrev pub decreases-leave-loop-statement : goal.decreases-leave-loop-statement
decreases-leave-loop-statement l = length l.left.items
