use Rattle.std.proofs.Common.{drop}
use Rattle.entry_check.specs.Pairs.{crossing_at, crossing_fits_at}
use Rattle.entry_check.specs.Tallies.{IsSound, Takes}
use Rattle.entry_check.specs.View.{said}
use Rattle.entry_check.proofs.crossings.take_crossings.Given as goal

abbrev pub invariant-loop-k : goal.invariant-loop-k
invariant-loop-k g l = record {
  sound : IsSound l.tally;
  takes : Takes (said l.asked.said.now) (crossing_at g.D.Domain l.asked.premises l.met) (crossing_fits_at l.met) l.crossings (drop l.k l.crossings) l.fn.tally l.tally;
}
