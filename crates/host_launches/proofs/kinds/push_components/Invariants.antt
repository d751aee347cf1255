use Rattle.std.proofs.Common.{◌≡◌, ◌++◌, ◌-◌, map}
use Rattle.words.specs.View.{kind}
use Rattle.host_launches.specs.Kinds.{component_kinds}
use Rattle.host_launches.proofs.kinds.push_components.Given as goal

abbrev pub invariant-loop : goal.invariant-loop
invariant-loop l = map kind l.found.items ++ component_kinds l.of.scalar (l.of.width - l.counter) ≡ map kind l.fn.found.items ++ component_kinds l.of.scalar l.of.width
