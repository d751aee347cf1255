use Rattle.std.proofs.Common.{◌≡◌, None}
use Rattle.walk.specs.Cursors.{Stands, left_count, stopped}
use Rattle.entry_check.specs.Rows.{TakesPairs, held_row, left_rows, pairs_with}
use Rattle.entry_check.specs.Tallies.{IsSound}
use Rattle.entry_check.proofs.pairs.take_behind.Given as goal

abbrev pub invariant-loop-path : goal.invariant-loop-path
invariant-loop-path g l = record {
  stands : Stands g.D.Domain l.terrain l.next;
  starts : stopped l.next ≡ None;
  held : l.met.paths.items ≡ l.fn.met.paths.items;
  sound : IsSound l.tally;
  takes : TakesPairs g.D.Domain l.asked l.kind (pairs_with l.asked l.terrain l.kind (held_row l.kind l.fn.met l.i) (left_rows g.D.Domain l.terrain l.kind l.fn.next)) (pairs_with l.asked l.terrain l.kind (held_row l.kind l.fn.met l.i) (left_rows g.D.Domain l.terrain l.kind l.next)) l.fn.tally l.tally;
}

abbrev pub decreases-loop-path : goal.decreases-loop-path
decreases-loop-path g l = left_count g.D.Domain l.terrain l.next
