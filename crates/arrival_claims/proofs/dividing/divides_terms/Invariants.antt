use Rattle.std.proofs.Common.{◌≡◌, drop}
use Rattle.linear.specs.Terms.{terms}
use Rattle.obligations.specs.Walking.{divides_terms}
use Rattle.arrival_claims.proofs.dividing.divides_terms.Given as goal

abbrev pub invariant-loop-term : goal.invariant-loop-term
invariant-loop-term l = divides_terms l.modulus (terms (drop l.term-index l.terms)) ≡ divides_terms l.modulus (terms l.terms)
