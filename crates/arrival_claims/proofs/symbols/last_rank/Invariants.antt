use Rattle.std.proofs.Common.{◌≡◌, ◌≤◌, length, take, reverse, map}
use Rattle.walk_trees.specs.Walks.{rank_form}
use Rattle.path_steps.specs.View.{ranked}
use Rattle.arrival_claims.proofs.symbols.last_rank.Given as goal

abbrev pub invariant-loop-at : goal.invariant-loop-at
invariant-loop-at l = record {
  within : l.at ≤ length l.ranks;
  same : rank_form (reverse (map ranked (take l.at l.ranks))) l.number ≡ rank_form (reverse (map ranked l.ranks)) l.number;
}

abbrev pub decreases-loop-at : goal.decreases-loop-at
decreases-loop-at l = l.at
