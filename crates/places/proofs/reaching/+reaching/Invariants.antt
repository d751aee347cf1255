use Rattle.std.proofs.Common.{◌≡◌, ◌≤◌, drop, length}
use Rattle.core_code.specs.View.{statements}
use Rattle.places.specs.Frames.{exits}
use Rattle.places.specs.Reaching.{by_statements}
use Rattle.places.specs.View.{lists}
use Rattle.places.proofs.reaching.+reaching.Given as goal

abbrev pub invariant-from_statements-loop-at : goal.invariant-from_statements-loop-at
invariant-from_statements-loop-at l = record {
  within : l.at ≤ length l.body;
  same : lists l.here ≡ by_statements l.head (statements (drop l.at l.body)) (lists l.fn.go) (exits l.exits);
}

abbrev pub decreases-from_statements-loop-at : goal.decreases-from_statements-loop-at
decreases-from_statements-loop-at l = l.at
