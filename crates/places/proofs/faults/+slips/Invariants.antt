use Rattle.std.proofs.Common.{◌≡◌, drop}
use Rattle.core_code.specs.View.{statements}
use Rattle.arrivals.specs.Loops.{slip}
use Rattle.places.proofs.faults.+slips.Given as goal

abbrev pub invariant-slip-loop-statement : goal.invariant-slip-loop-statement
invariant-slip-loop-statement l = slip (statements (drop l.statement-index l.body)) ≡ slip (statements l.body)
