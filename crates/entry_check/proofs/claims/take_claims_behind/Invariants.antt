use Rattle.std.proofs.Common.{◌≡◌, None}
use Rattle.std.specs.Prelude.{true}
use Rattle.two_thread.specs.Fitting.{claims_fit}
use Rattle.walk.specs.Cursors.{Stands, left_claims, left_count, stopped}
use Rattle.entry_check.specs.Hand.{claim_fits, claim_owed}
use Rattle.entry_check.specs.Tallies.{IsSound, Takes}
use Rattle.entry_check.specs.View.{said}
use Rattle.entry_check.proofs.claims.take_claims_behind.Given as goal

abbrev pub invariant-loop-path : goal.invariant-loop-path
invariant-loop-path g l = record {
  stands : Stands g.D.Domain l.terrain l.next;
  starts : stopped l.next ≡ None;
  sound : IsSound l.tally;
  denied : l.tally.stopped ≡ None → claims_fit (left_claims g.D.Domain l.terrain l.next) ≡ true;
  takes : Takes (said l.asked.said.now) (claim_owed l.asked.premises) claim_fits (left_claims g.D.Domain l.terrain l.fn.next) (left_claims g.D.Domain l.terrain l.next) l.fn.tally l.tally;
}

abbrev pub decreases-loop-path : goal.decreases-loop-path
decreases-loop-path g l = left_count g.D.Domain l.terrain l.next
