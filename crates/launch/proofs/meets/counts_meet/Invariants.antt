use Rattle.std.proofs.Common.{◌≡◌, drop}
use Rattle.launch.specs.View.{launch}
use Rattle.launch.specs.Unmet.{unmet_counts}
use Rattle.launch.proofs.meets.counts_meet.Given as goal

abbrev pub invariant-loop-at : goal.invariant-loop-at
invariant-loop-at l = unmet_counts (launch l.launch) (drop l.at l.lengths) (drop l.at l.counts) ≡ unmet_counts (launch l.launch) l.lengths l.counts
