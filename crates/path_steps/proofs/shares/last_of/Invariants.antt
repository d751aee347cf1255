use Rattle.std.proofs.Common.{◌≡◌, ◌≤◌, length, take, reverse, map}
use Rattle.linear.specs.Forms.{form}
use Rattle.walk_trees.specs.Shares.{shared_of}
use Rattle.path_steps.specs.View.{shared_seen}
use Rattle.path_steps.proofs.shares.last_of.Given as goal

abbrev pub invariant-loop-at : goal.invariant-loop-at
invariant-loop-at l = record {
  within : l.at ≤ length l.quotients;
  same : shared_of (form l.dividend) (form l.divisor) (reverse (map shared_seen (take l.at l.quotients))) ≡ shared_of (form l.dividend) (form l.divisor) (reverse (map shared_seen l.quotients));
}

abbrev pub decreases-loop-at : goal.decreases-loop-at
decreases-loop-at l = l.at
