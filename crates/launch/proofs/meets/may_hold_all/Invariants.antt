use Rattle.std.proofs.Common.{◌≡◌, drop, map}
use Rattle.words.specs.View.{value_of}
use Rattle.launch.specs.Differences.{difference}
use Rattle.launch.specs.Unmet.{may_hold_all}
use Rattle.launch.proofs.meets.may_hold_all.Given as goal

abbrev pub invariant-loop-word : goal.invariant-loop-word
invariant-loop-word l =
    may_hold_all l.is_upper (difference l.sum) (map value_of (drop l.word-index l.words)) ≡ may_hold_all l.is_upper (difference l.sum) (map value_of l.words)
