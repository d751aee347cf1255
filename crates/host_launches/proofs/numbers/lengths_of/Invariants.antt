use Rattle.std.proofs.Common.{◌≡◌, ◌++◌, drop}
use Rattle.host_launches.specs.Numbers.{lengths_of}
use Rattle.host_launches.proofs.numbers.lengths_of.Given as goal

abbrev pub invariant-loop-at : goal.invariant-loop-at
invariant-loop-at l = l.found.items ++ lengths_of (drop l.at l.shapes) (drop l.at l.arguments) ≡ lengths_of l.shapes l.arguments
