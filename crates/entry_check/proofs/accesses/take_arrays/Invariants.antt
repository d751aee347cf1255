use Rattle.std.proofs.Common.{◌≡◌, ◌++◌, drop}
use Rattle.core_code.specs.View.{space}
use Rattle.obligations.specs.Fitting.{crossing_fits}
use Rattle.two_thread.specs.View.{met_accesses}
use Rattle.walk.specs.Cursors.{left_accesses}
use Rattle.entry_check.specs.Hand.{crossing_owed}
use Rattle.entry_check.specs.Pairs.{crossings_of_arrays}
use Rattle.entry_check.specs.Tallies.{IsSound, Takes}
use Rattle.entry_check.specs.View.{said}
use Rattle.entry_check.proofs.accesses.take_arrays.Given as goal

abbrev pub invariant-loop-number : goal.invariant-loop-number
invariant-loop-number g l = record {
  held : l.met.paths.items ≡ l.fn.met.paths.items;
  sound : IsSound l.tally;
  takes : Takes (said l.asked.said.now) (crossing_owed g.D.Domain l.asked.premises) crossing_fits (crossings_of_arrays l.terrain l.fenced (met_accesses l.fn.met ++ left_accesses g.D.Domain l.terrain l.behind) (space l.space) 0 l.arrays) (crossings_of_arrays l.terrain l.fenced (met_accesses l.fn.met ++ left_accesses g.D.Domain l.terrain l.behind) (space l.space) l.number (drop l.number l.arrays)) l.fn.tally l.tally;
}
