use Rattle.std.proofs.Common.{◌≡◌, drop, map}
use Rattle.certificate_text.specs.Rules as rules
use Rattle.certificate.specs.View as view
use Rattle.certificate.proofs.proper.are_multiples.Given as goal

abbrev pub invariant-loop-multiple : goal.invariant-loop-multiple
invariant-loop-multiple l = rules.all rules.is_multiple (map view.multiple (drop l.multiple-index l.multiples)) ≡ rules.all rules.is_multiple (map view.multiple l.multiples)
