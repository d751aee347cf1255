use Rattle.std.proofs.Common.{◌≡◌, ◌-◌, ◌≤◌, length, drop, map}
use Rattle.certificate_text.specs.Rules as rules
use Rattle.certificate.specs.View as view
use Rattle.certificate.proofs.rules.bounds_rise.Given as goal

abbrev pub invariant-loop-i : goal.invariant-loop-i
invariant-loop-i l = record {
  within : l.i ≤ length l.bounds;
  same : rules.rises rules.bound_is_before (map view.bound (drop l.i l.bounds)) ≡ rules.rises rules.bound_is_before (map view.bound l.bounds);
}

abbrev pub decreases-loop-i : goal.decreases-loop-i
decreases-loop-i l = length l.bounds - l.i
