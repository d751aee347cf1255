use Rattle.std.proofs.Common.{◌≡◌, drop, map}
use Rattle.linear.specs.Forms.{form}
use Rattle.certificate.specs.View as view
use Rattle.certificate_notes.specs.Sights as sights
use Rattle.certificate_notes.specs.View.{chart, sight}
use Rattle.certificate_notes.proofs.forms.with_terms.Given as goal

abbrev pub invariant-loop-term : goal.invariant-loop-term
invariant-loop-term l = sights.added (chart l.chart) (sight l.sight) (map view.term (drop l.term-index l.terms)) (form l.sum) ≡ sights.added (chart l.chart) (sight l.sight) (map view.term l.terms) (form l.fn.form)
