use Rattle.std.proofs.Common.{◌≡◌, ◌++◌, ◌-◌, map}
use Rattle.words.specs.View.{word}
use Rattle.host_launches.specs.Numbers.{components}
use Rattle.host_launches.proofs.numbers.push_components.Given as goal

abbrev pub invariant-loop-place : goal.invariant-loop-place
invariant-loop-place l = map word l.found.items ++ components l.of.scalar l.words l.place (l.of.width - l.place) ≡ map word l.fn.found.items ++ components l.of.scalar l.words 0 l.of.width
