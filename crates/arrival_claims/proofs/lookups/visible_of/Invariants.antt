use Rattle.std.proofs.Common.{◌≡◌, drop}
use Rattle.obligations.specs.View as view
use Rattle.arrival_claims.proofs.lookups.visible_of.Given as goal

abbrev pub invariant-loop-visible : goal.invariant-loop-visible
invariant-loop-visible l = view.visible_of (drop l.visible-index l.all) l.statement ≡ view.visible_of l.all l.statement
