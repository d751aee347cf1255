use Rattle.std.proofs.Common.{◌≡◌, ◌≤◌, drop, length}
use Rattle.core_code.specs.View.{statements}
use Rattle.places.specs.Behind.{found}
use Rattle.places.specs.Reaching.{all_before}
use Rattle.places.proofs.behind.all_before.Given as goal

abbrev pub invariant-loop-at : goal.invariant-loop-at
invariant-loop-at l = record {
  within : l.at ≤ length l.body;
  same : found l.here ≡ all_before l.head (statements (drop l.at l.body)) (found l.fn.found);
}

abbrev pub decreases-loop-at : goal.decreases-loop-at
decreases-loop-at l = l.at
