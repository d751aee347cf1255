use Rattle.std.proofs.Common.{◌≡◌, drop}
use Rattle.obligations.specs.View as view
use Rattle.arrival_claims.proofs.lookups.quotient_of.Given as goal

abbrev pub invariant-loop-quotient : goal.invariant-loop-quotient
invariant-loop-quotient l = view.quotient_of (drop l.quotient-index l.quotients) l.claim ≡ view.quotient_of l.quotients l.claim
