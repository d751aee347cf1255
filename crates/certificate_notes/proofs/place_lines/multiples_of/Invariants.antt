use Rattle.std.proofs.Common.{◌≡◌, drop, map}
use Rattle.certificate.specs.View as view
use Rattle.obligations.specs.View.{multiple}
use Rattle.certificate_notes.specs.Noted as noted
use Rattle.certificate_notes.specs.Noted.{each}
use Rattle.certificate_notes.specs.View.{chart, sight}
use Rattle.certificate_notes.specs.Behind.{after}
use Rattle.certificate_notes.proofs.place_lines.multiples_of.Given as goal

abbrev pub invariant-loop-one : goal.invariant-loop-one
invariant-loop-one l = after (map multiple l.found.items) (each (noted.multiple (chart l.chart) (sight l.sight)) (map view.multiple (drop l.one-index l.multiples))) ≡ each (noted.multiple (chart l.chart) (sight l.sight)) (map view.multiple l.multiples)
