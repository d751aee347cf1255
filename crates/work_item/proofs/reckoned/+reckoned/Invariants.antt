use Rattle.std.proofs.Common.{◌≡◌, drop}
use Rattle.core_code.specs.View.{statements}
use Rattle.semantics.specs.Machines.{are_reckoned}
use Rattle.work_item.proofs.reckoned.+reckoned.Given as goal

abbrev pub invariant-are_reckoned-loop-statement : goal.invariant-are_reckoned-loop-statement
invariant-are_reckoned-loop-statement l = are_reckoned (statements (drop l.statement-index l.block)) ≡ are_reckoned (statements l.block)
