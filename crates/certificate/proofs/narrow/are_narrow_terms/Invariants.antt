use Rattle.std.proofs.Common.{◌≡◌, drop, map}
use Rattle.certificate_text.specs.Rules as rules
use Rattle.certificate.specs.View as view
use Rattle.certificate.proofs.narrow.are_narrow_terms.Given as goal

abbrev pub invariant-loop-term : goal.invariant-loop-term
invariant-loop-term l = rules.all rules.is_narrow_term (map view.term (drop l.term-index l.terms)) ≡ rules.all rules.is_narrow_term (map view.term l.terms)
