use Rattle.std.proofs.Common.{◌≡◌, None}
use Rattle.walk.specs.Cursors.{Stands, left_count, stopped}
use Rattle.entry_check.specs.Rows.{TakesPairs, all_pairs, left_rows}
use Rattle.entry_check.specs.Tallies.{IsSound}
use Rattle.entry_check.proofs.pairs.take_left.Given as goal

abbrev pub invariant-loop-path : goal.invariant-loop-path
invariant-loop-path g l = record {
  stands : Stands g.D.Domain l.terrain l.next;
  starts : stopped l.next ≡ None;
  sound : IsSound l.tally;
  takes : TakesPairs g.D.Domain l.asked l.kind (all_pairs l.asked l.terrain l.kind (left_rows g.D.Domain l.terrain l.kind l.fn.next)) (all_pairs l.asked l.terrain l.kind (left_rows g.D.Domain l.terrain l.kind l.next)) l.fn.tally l.tally;
}

abbrev pub decreases-loop-path : goal.decreases-loop-path
decreases-loop-path g l = left_count g.D.Domain l.terrain l.next
