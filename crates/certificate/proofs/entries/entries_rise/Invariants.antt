use Rattle.std.proofs.Common.{◌≡◌, ◌-◌, ◌≤◌, length, drop, map}
use Rattle.certificate_text.specs.Rules as rules
use Rattle.certificate.specs.View as view
use Rattle.certificate.proofs.entries.entries_rise.Given as goal

abbrev pub invariant-loop-i : goal.invariant-loop-i
invariant-loop-i l = record {
  within : l.i ≤ length l.entries;
  same : rules.rises rules.entry_is_before (map view.entry (drop l.i l.entries)) ≡ rules.rises rules.entry_is_before (map view.entry l.entries);
}

abbrev pub decreases-loop-i : goal.decreases-loop-i
decreases-loop-i l = length l.entries - l.i
