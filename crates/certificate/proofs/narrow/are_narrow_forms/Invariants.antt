use Rattle.std.proofs.Common.{◌≡◌, drop, map}
use Rattle.certificate_text.specs.Rules as rules
use Rattle.certificate.specs.View as view
use Rattle.certificate.proofs.narrow.are_narrow_forms.Given as goal

abbrev pub invariant-loop-form : goal.invariant-loop-form
invariant-loop-form l = rules.all rules.is_narrow_form (map view.form (drop l.form-index l.forms)) ≡ rules.all rules.is_narrow_form (map view.form l.forms)
