use Rattle.std.proofs.Common.{◌≡◌, ◌≤◌, ◌+◌, ◌*◌, length}
use Rattle.opencl_tree.specs.View.{statement, statements}
use Rattle.opencl_jumps.specs.Switches.{all_rewritten}
use Rattle.opencl_jumps.proofs.Weights.{weight, weights, joined}
use Rattle.opencl_jumps.proofs.switches.+rewriting.Given as goal

abbrev pub decreases-rewritten : goal.decreases-rewritten
decreases-rewritten l = weight (statement l.statement) * 2 + 1

abbrev pub decreases-rewritten_do : goal.decreases-rewritten_do
decreases-rewritten_do l = weights (statements l.body.items) * 2 + 1

abbrev pub decreases-rewritten_parts : goal.decreases-rewritten_parts
decreases-rewritten_parts l = (weights (statements l.taken.items) + weights (statements l.skipped.items)) * 2 + 1

abbrev pub decreases-all_rewritten : goal.decreases-all_rewritten
decreases-all_rewritten l = weights (statements l.body.items) * 2

abbrev pub invariant-all_rewritten-loop-statement : goal.invariant-all_rewritten-loop-statement
invariant-all_rewritten-loop-statement l =
    (joined (all_rewritten (statements l.left.items)) (statements l.all.items) ≡ all_rewritten (statements l.fn.body.items))
    × (weights (statements l.left.items) ≤ weights (statements l.fn.body.items))

abbrev pub decreases-all_rewritten-loop-statement : goal.decreases-all_rewritten-loop-statement
decreases-all_rewritten-loop-statement l = length l.left.items
