use Rattle.std.proofs.Common.{◌≡◌, ◌-◌, ◌≤◌, length, drop, map}
use Rattle.certificate_text.specs.Forms as forms
use Rattle.certificate_text.specs.Rules as rules
use Rattle.certificate.specs.View as view
use Rattle.certificate.proofs.proper.terms_rise.Given as goal

abbrev pub invariant-loop-i : goal.invariant-loop-i
invariant-loop-i l = record {
  within : l.i ≤ length l.terms;
  same : rules.rises forms.term_is_before (map view.term (drop l.i l.terms)) ≡ rules.rises forms.term_is_before (map view.term l.terms);
}

abbrev pub decreases-loop-i : goal.decreases-loop-i
decreases-loop-i l = length l.terms - l.i
