use Rattle.std.proofs.Common.{◌≡◌, ◌++◌, drop, map}
use Rattle.launch.specs.View.{argument_range}
use Rattle.facts.specs.Launching.{of_range}
use Rattle.facts.proofs.extents.of_arguments.Given as goal

abbrev pub invariant-loop-range : goal.invariant-loop-range
invariant-loop-range g l = l.elements.items ++ map (of_range g.D.Domain) (map argument_range (drop l.range-index l.ranges)) ≡ map (of_range g.D.Domain) (map argument_range l.ranges)
