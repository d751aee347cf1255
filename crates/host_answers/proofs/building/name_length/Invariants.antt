use Rattle.std.proofs.Common.{◌≡◌, ◌+◌, drop}
use Rattle.host_answers.specs.Building.{name_length}
use Rattle.host_answers.proofs.building.name_length.Given as goal

abbrev pub invariant-loop-at : goal.invariant-loop-at
invariant-loop-at l = l.at + name_length (drop l.at l.line) ≡ name_length l.line
