use Rattle.std.proofs.Common.{◌≡◌, drop, map}
use Rattle.certificate_text.specs.Rules as rules
use Rattle.certificate.specs.View as view
use Rattle.certificate.proofs.narrow.are_narrow_bounds.Given as goal

abbrev pub invariant-loop-bound : goal.invariant-loop-bound
invariant-loop-bound l = rules.all rules.is_narrow_bound (map view.bound (drop l.bound-index l.bounds)) ≡ rules.all rules.is_narrow_bound (map view.bound l.bounds)
