use Rattle.std.proofs.Common.{◌≡◌, ◌&&◌, None}
use Rattle.two_thread.specs.Fitting.{claims_fit}
use Rattle.walk.specs.Cursors.{Stands, left_claims, left_count, stopped}
use Rattle.entry_check.proofs.claims.are_denied_behind.Given as goal

abbrev pub invariant-loop-path : goal.invariant-loop-path
invariant-loop-path g l = record {
  stands : Stands g.D.Domain l.terrain l.next;
  starts : stopped l.next ≡ None;
  all : (l.all && claims_fit (left_claims g.D.Domain l.terrain l.next)) ≡ claims_fit (left_claims g.D.Domain l.terrain l.fn.next);
}

abbrev pub decreases-loop-path : goal.decreases-loop-path
decreases-loop-path g l = left_count g.D.Domain l.terrain l.next
