use Rattle.std.proofs.Common.{drop}
use Rattle.entry_check.specs.Pairs.{meeting_at, meeting_fits_at}
use Rattle.entry_check.specs.Tallies.{IsSound, Takes}
use Rattle.entry_check.specs.View.{said}
use Rattle.entry_check.proofs.meetings.take_meetings.Given as goal

abbrev pub invariant-loop-k : goal.invariant-loop-k
invariant-loop-k g l = record {
  sound : IsSound l.tally;
  takes : Takes (said l.asked.said.now) (meeting_at g.D.Domain l.asked.premises l.met) (meeting_fits_at l.met) l.meetings (drop l.k l.meetings) l.fn.tally l.tally;
}
