use Rattle.std.proofs.Common.{◌≡◌, drop, map}
use Rattle.certificate_text.specs.Rules as rules
use Rattle.certificate.specs.View as view
use Rattle.certificate.proofs.narrow.are_narrow_congruences.Given as goal

abbrev pub invariant-loop-congruence : goal.invariant-loop-congruence
invariant-loop-congruence l = rules.all rules.is_narrow_congruence (map view.congruence (drop l.congruence-index l.congruences)) ≡ rules.all rules.is_narrow_congruence (map view.congruence l.congruences)
