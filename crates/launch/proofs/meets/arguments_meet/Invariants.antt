use Rattle.std.proofs.Common.{◌≡◌, map, drop}
use Rattle.words.specs.View.{word}
use Rattle.launch.specs.Unmet.{unmet_arguments}
use Rattle.launch.proofs.meets.arguments_meet.Given as goal

abbrev pub invariant-loop-at : goal.invariant-loop-at
invariant-loop-at l = unmet_arguments (drop l.at l.ranges) (map word (drop l.at l.words)) ≡ unmet_arguments l.ranges (map word l.words)
