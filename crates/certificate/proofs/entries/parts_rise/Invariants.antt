use Rattle.std.proofs.Common.{◌≡◌, ◌-◌, ◌≤◌, length, drop, map}
use Rattle.certificate_text.specs.Lines.{line_is_before}
use Rattle.certificate_text.specs.Rules as rules
use Rattle.certificate.specs.View as view
use Rattle.certificate.proofs.entries.parts_rise.Given as goal

abbrev pub invariant-loop-i : goal.invariant-loop-i
invariant-loop-i l = record {
  within : l.i ≤ length l.parts;
  same : rules.rises line_is_before (map view.scaled (drop l.i l.parts)) ≡ rules.rises line_is_before (map view.scaled l.parts);
}

abbrev pub decreases-loop-i : goal.decreases-loop-i
decreases-loop-i l = length l.parts - l.i
