use Rattle.std.proofs.Common.{◌≡◌, drop}
use Rattle.two_thread.specs.View.{met_ends}
use Rattle.entry_check.specs.Pairs.{all_final}
use Rattle.entry_check.proofs.meetings.are_final.Given as goal

abbrev pub invariant-loop-i : goal.invariant-loop-i
invariant-loop-i g l = all_final (drop l.i (met_ends l.met)) ≡ all_final (met_ends l.met)
