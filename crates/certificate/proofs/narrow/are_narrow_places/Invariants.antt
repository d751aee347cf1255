use Rattle.std.proofs.Common.{◌≡◌, drop, map}
use Rattle.certificate_text.specs.Rules as rules
use Rattle.certificate.specs.View as view
use Rattle.certificate.proofs.narrow.are_narrow_places.Given as goal

abbrev pub invariant-loop-place : goal.invariant-loop-place
invariant-loop-place l = rules.all rules.is_narrow_place (map view.place (drop l.place-index l.places)) ≡ rules.all rules.is_narrow_place (map view.place l.places)
