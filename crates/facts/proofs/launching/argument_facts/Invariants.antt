use Rattle.std.proofs.Common.{◌≡◌, ◌++◌, drop, map}
use Rattle.linear.specs.Forms.{forms}
use Rattle.launch.specs.View.{argument_range}
use Rattle.facts.specs.Launching as launching
use Rattle.facts.proofs.launching.argument_facts.Given as goal

abbrev pub invariant-loop-range : goal.invariant-loop-range
invariant-loop-range l = record {
  count : l.parameter ≡ l.range-index;
  same : forms l.facts.items ++ launching.argument_facts l.parameter (map argument_range (drop l.range-index l.ranges)) ≡ forms l.fn.facts.items ++ launching.argument_facts 0 (map argument_range l.ranges);
}
