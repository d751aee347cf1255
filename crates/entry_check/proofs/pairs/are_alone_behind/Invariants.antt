use Rattle.std.proofs.Common.{◌≡◌, ◌&&◌, None}
use Rattle.walk.specs.Cursors.{Stands, left_count, stopped}
use Rattle.entry_check.specs.Rows.{all_alone, left_rows}
use Rattle.entry_check.proofs.pairs.are_alone_behind.Given as goal

abbrev pub invariant-loop-path : goal.invariant-loop-path
invariant-loop-path g l = record {
  stands : Stands g.D.Domain l.terrain l.next;
  starts : stopped l.next ≡ None;
  all : (l.all && all_alone l.terrain l.kind (left_rows g.D.Domain l.terrain l.kind l.next)) ≡ all_alone l.terrain l.kind (left_rows g.D.Domain l.terrain l.kind l.fn.next);
}

abbrev pub decreases-loop-path : goal.decreases-loop-path
decreases-loop-path g l = left_count g.D.Domain l.terrain l.next
