use Rattle.std.proofs.Common.{◌≡◌, drop, map}
use Rattle.certificate.specs.View as view
use Rattle.obligations.specs.View.{congruence}
use Rattle.certificate_notes.specs.Noted as noted
use Rattle.certificate_notes.specs.Noted.{each}
use Rattle.certificate_notes.specs.View.{chart, sight}
use Rattle.certificate_notes.specs.Behind.{after}
use Rattle.certificate_notes.proofs.place_lines.congruences_of.Given as goal

abbrev pub invariant-loop-one : goal.invariant-loop-one
invariant-loop-one l = after (map congruence l.found.items) (each (noted.congruence (chart l.chart) (sight l.sight)) (map view.congruence (drop l.one-index l.congruences))) ≡ each (noted.congruence (chart l.chart) (sight l.sight)) (map view.congruence l.congruences)
