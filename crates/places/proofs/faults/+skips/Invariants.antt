use Rattle.std.proofs.Common.{◌≡◌, drop}
use Rattle.core_code.specs.View.{statements}
use Rattle.arrivals.specs.Loops.{skip}
use Rattle.places.proofs.faults.+skips.Given as goal

abbrev pub invariant-skip-loop-statement : goal.invariant-skip-loop-statement
invariant-skip-loop-statement l = skip (statements (drop l.statement-index l.body)) ≡ skip (statements l.body)
