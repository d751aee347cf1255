use Rattle.std.proofs.Common.{◌≡◌, ◌≤◌, ◌+◌, ◌*◌, length}
use Rattle.opencl_tree.specs.View.{statement, statements}
use Rattle.opencl_jumps.specs.Leaving.{all_looped}
use Rattle.opencl_jumps.proofs.Weights.{weight, weights, joined}
use Rattle.opencl_jumps.proofs.leaving.+looping.Given as goal

abbrev pub decreases-looped : goal.decreases-looped
decreases-looped l = weight (statement l.statement) * 2 + 1

abbrev pub decreases-looped_one : goal.decreases-looped_one
decreases-looped_one l = weight (statement l.statement) * 2

abbrev pub decreases-looped_parts : goal.decreases-looped_parts
decreases-looped_parts l = (weights (statements l.taken.items) + weights (statements l.skipped.items)) * 2 + 1

abbrev pub decreases-all_looped : goal.decreases-all_looped
decreases-all_looped l = weights (statements l.body.items) * 2

abbrev pub invariant-all_looped-loop-statement : goal.invariant-all_looped-loop-statement
invariant-all_looped-loop-statement l =
    (joined (all_looped (statements l.left.items)) (statements l.all.items) ≡ all_looped (statements l.fn.body.items))
    × (weights (statements l.left.items) ≤ weights (statements l.fn.body.items))

abbrev pub decreases-all_looped-loop-statement : goal.decreases-all_looped-loop-statement
decreases-all_looped-loop-statement l = length l.left.items
