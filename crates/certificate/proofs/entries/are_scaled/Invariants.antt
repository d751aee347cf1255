use Rattle.std.proofs.Common.{◌≡◌, drop, map}
use Rattle.certificate_text.specs.Rules as rules
use Rattle.certificate.specs.View as view
use Rattle.certificate.proofs.entries.are_scaled.Given as goal

abbrev pub invariant-loop-part : goal.invariant-loop-part
invariant-loop-part l = rules.all rules.is_scaled (map view.scaled (drop l.part-index l.parts)) ≡ rules.all rules.is_scaled (map view.scaled l.parts)
