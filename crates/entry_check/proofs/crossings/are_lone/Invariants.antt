use Rattle.std.proofs.Common.{◌≡◌, drop}
use Rattle.two_thread.specs.View.{met_accesses}
use Rattle.entry_check.specs.Pairs.{all_lone}
use Rattle.entry_check.proofs.crossings.are_lone.Given as goal

abbrev pub invariant-loop-i : goal.invariant-loop-i
invariant-loop-i g l = all_lone l.terrain l.sought (drop l.i (met_accesses l.met)) ≡ all_lone l.terrain l.sought (met_accesses l.met)
