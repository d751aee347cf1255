use Rattle.std.proofs.Common.{◌+◌, ◌*◌}
use Rattle.opencl_tree.specs.View.{statement, statements}
use Rattle.opencl_core.proofs.Weights.{weight, weights}
use Rattle.opencl_core.proofs.tails.+tails.Given as goal

abbrev pub decreases-write_tail : goal.decreases-write_tail
decreases-write_tail l = weights (statements l.body.now) * 16

abbrev pub decreases-tail_block : goal.decreases-tail_block
decreases-tail_block l = weights (statements l.body.now) * 16 + 1

abbrev pub decreases-tail_part : goal.decreases-tail_part
decreases-tail_part l = weights (statements l.body.now) * 16 + 2

abbrev pub decreases-last_block : goal.decreases-last_block
decreases-last_block l = weights (statements l.body.now) * 16 + 2

abbrev pub decreases-block_then : goal.decreases-block_then
decreases-block_then l = (weights (statements l.first.now) + weights (statements l.behind.now)) * 16 + 1

abbrev pub decreases-then_block : goal.decreases-then_block
decreases-then_block l = (weights (statements l.first.now) + weights (statements l.behind.now)) * 16 + 2

abbrev pub decreases-then_part : goal.decreases-then_part
decreases-then_part l = (weights (statements l.first.now) + weights (statements l.behind.now)) * 16 + 3

abbrev pub decreases-else_tail : goal.decreases-else_tail
decreases-else_tail l = (weights (statements l.of.now) + weights (statements l.behind.now)) * 16 + 2

abbrev pub decreases-else_block : goal.decreases-else_block
decreases-else_block l = (weights (statements l.of.now) + weights (statements l.behind.now)) * 16 + 3

abbrev pub decreases-else_part : goal.decreases-else_part
decreases-else_part l = (weights (statements l.of.now) + weights (statements l.behind.now)) * 16 + 4

abbrev pub decreases-both_last : goal.decreases-both_last
decreases-both_last l = (weights (statements l.taken.now) + weights (statements l.skipped.now)) * 16 + 5

abbrev pub decreases-taken_last : goal.decreases-taken_last
decreases-taken_last l = (weights (statements l.parts.0.now) + (weights (statements l.parts.1.now) + weights (statements l.parts.2.now))) * 16 + 5

abbrev pub decreases-skipped_last : goal.decreases-skipped_last
decreases-skipped_last l = (weights (statements l.parts.0.now) + (weights (statements l.parts.1.now) + weights (statements l.parts.2.now))) * 16 + 5

abbrev pub decreases-tail_if : goal.decreases-tail_if
decreases-tail_if l = (weights (statements l.parts.0.now) + (weights (statements l.parts.1.now) + weights (statements l.parts.2.now))) * 16 + 6

abbrev pub decreases-tail_returning : goal.decreases-tail_returning
decreases-tail_returning l = (weight (statement l.of.now) + weights (statements l.behind.now)) * 16 + 7

abbrev pub decreases-tail_of : goal.decreases-tail_of
decreases-tail_of l = (weight (statement l.of.now) + weights (statements l.behind.now)) * 16 + 8
