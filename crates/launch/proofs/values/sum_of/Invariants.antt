use Rattle.std.proofs.Common.{◌≡◌, ◌≤◌, ◌*◌, ◌^◌, map, drop}
use Rattle.std.specs.Prelude.{pos, ◌-ℤ◌, ◌+ℤ◌}
use Rattle.semantics.specs.Conditions.{sum_value}
use Rattle.launch.specs.View.{launch, summand}
use Rattle.launch.proofs.values.sum_of.Given as goal

abbrev pub invariant-loop-summand : goal.invariant-loop-summand
invariant-loop-summand l = record {
  plus_bound : l.plus ≤ l.summand-index * 2 ^ 96;
  minus_bound : l.minus ≤ l.summand-index * 2 ^ 96;
  same : (pos l.plus -ℤ pos l.minus) +ℤ sum_value (launch l.launch) (map summand (drop l.summand-index l.sum.terms.items)) ≡ sum_value (launch l.launch) (map summand l.sum.terms.items);
}
