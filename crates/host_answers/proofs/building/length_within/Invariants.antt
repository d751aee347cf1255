use Rattle.std.proofs.Common.{◌≡◌, ◌+◌, drop}
use Rattle.std.specs.List.{prefix_len}
use Rattle.host_answers.specs.Building.{is_within}
use Rattle.host_answers.proofs.building.length_within.Given as goal

abbrev pub invariant-loop-at : goal.invariant-loop-at
invariant-loop-at l = l.at + prefix_len is_within (drop l.at l.bytes) ≡ prefix_len is_within l.bytes
