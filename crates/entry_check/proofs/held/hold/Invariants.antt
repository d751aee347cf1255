use Rattle.std.proofs.Common.{◌≡◌, None}
use Rattle.std.specs.Prelude.{true}
use Rattle.obligations.specs.Owning.{all_own_accesses, all_own_ends}
use Rattle.two_thread.specs.Paths.{all_accesses, all_ends}
use Rattle.walk.specs.Cursors.{Stands, left_count, stopped}
use Rattle.entry_check.specs.Held.{Holds}
use Rattle.entry_check.proofs.held.hold.Given as goal

abbrev pub invariant-loop-room : goal.invariant-loop-room
invariant-loop-room g l = record {
  stands : Stands g.D.Domain l.terrain l.next;
  starts : stopped l.next ≡ None;
  accesses : all_own_accesses (all_accesses l.paths.items) ≡ true;
  ends : all_own_ends (all_ends l.paths.items) ≡ true;
  holds : Holds g.D.Domain l.terrain l.fn.next l.fn.from.items l.next l.paths.items;
}

abbrev pub decreases-loop-room : goal.decreases-loop-room
decreases-loop-room g l = left_count g.D.Domain l.terrain l.next
