use Rattle.std.proofs.Common.{◌≡◌, drop, map}
use Rattle.linear.specs.Forms as forms
use Rattle.certificate.specs.View.{form}
use Rattle.certificate_notes.specs.Noted.{each}
use Rattle.certificate_notes.specs.Sights.{fact}
use Rattle.certificate_notes.specs.View.{chart, sight}
use Rattle.certificate_notes.specs.Behind.{after}
use Rattle.certificate_notes.proofs.place_lines.facts_of.Given as goal

abbrev pub invariant-loop-form : goal.invariant-loop-form
invariant-loop-form l = after (map forms.form l.facts.items) (each (fact (chart l.chart) (sight l.sight)) (map form (drop l.form-index l.forms))) ≡ each (fact (chart l.chart) (sight l.sight)) (map form l.forms)
