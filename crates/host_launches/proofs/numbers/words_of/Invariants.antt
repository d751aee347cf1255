use Rattle.std.proofs.Common.{◌≡◌, ◌++◌, drop, map}
use Rattle.words.specs.View.{word}
use Rattle.host_launches.specs.Numbers.{words_of}
use Rattle.host_launches.proofs.numbers.words_of.Given as goal

abbrev pub invariant-loop-at : goal.invariant-loop-at
invariant-loop-at l = map word l.found.items ++ words_of (drop l.at l.shapes) (drop l.at l.arguments) ≡ words_of l.shapes l.arguments
