use Rattle.std.proofs.Common.{◌≡◌, map, drop}
use Rattle.launch.specs.View.{launch, buffer}
use Rattle.launch.specs.Unmet.{unmet_lengths}
use Rattle.launch.proofs.meets.lengths_meet.Given as goal

abbrev pub invariant-loop-at : goal.invariant-loop-at
invariant-loop-at l = unmet_lengths (launch l.launch) (drop l.at l.lengths) (map buffer (drop l.at l.buffers)) ≡ unmet_lengths (launch l.launch) l.lengths (map buffer l.buffers)
