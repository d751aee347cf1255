use Rattle.std.proofs.Common.{◌≡◌, drop, map}
use Rattle.certificate_text.specs.Rules as rules
use Rattle.certificate.specs.View as view
use Rattle.certificate.proofs.narrow.are_narrow_steps.Given as goal

abbrev pub invariant-loop-step : goal.invariant-loop-step
invariant-loop-step l = rules.all rules.is_narrow_step (map view.step (drop l.step-index l.steps)) ≡ rules.all rules.is_narrow_step (map view.step l.steps)
