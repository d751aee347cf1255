use Rattle.std.proofs.Common.{drop}
use Rattle.two_thread.specs.View.{met_claims}
use Rattle.entry_check.specs.Hand.{claim_fits, claim_owed}
use Rattle.entry_check.specs.Tallies.{IsSound, Keeps, Takes}
use Rattle.entry_check.specs.View.{said}
use Rattle.entry_check.proofs.claims.take_claims.Given as goal

abbrev pub invariant-loop-i : goal.invariant-loop-i
invariant-loop-i g l = record {
  sound : IsSound l.tally;
  keeps : Keeps l.fn.tally l.tally;
  takes : Takes (said l.asked.said.now) (claim_owed l.asked.premises) claim_fits (met_claims l.met) (drop l.i (met_claims l.met)) l.fn.tally l.tally;
}
