use Rattle.std.proofs.Common.{◌≡◌, drop}
use Rattle.core_code.specs.View.{statements}
use Rattle.arrivals.specs.Loops.{unmet}
use Rattle.places.proofs.faults.+unmet.Given as goal

abbrev pub invariant-unmet-loop-statement : goal.invariant-unmet-loop-statement
invariant-unmet-loop-statement l = unmet (statements (drop l.statement-index l.body)) ≡ unmet (statements l.body)
