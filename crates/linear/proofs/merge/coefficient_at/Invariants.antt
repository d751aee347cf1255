use Rattle.std.proofs.Common.{◌≡◌, drop}
use Rattle.linear.specs.Exact.{coefficient_of}
use Rattle.linear.specs.Terms.{terms}
use Rattle.linear.proofs.merge.coefficient_at.Given as goal

abbrev pub invariant-loop-t : goal.invariant-loop-t
invariant-loop-t l = coefficient_of l.symbol.number (terms (drop l.t-index l.a)) ≡ coefficient_of l.symbol.number (terms l.a)
