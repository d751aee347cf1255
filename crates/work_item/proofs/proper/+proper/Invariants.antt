use Rattle.std.proofs.Common.{◌≡◌, drop}
use Rattle.core_code.specs.View.{statements}
use Rattle.work_item.specs.Proper.{are_proper}
use Rattle.work_item.proofs.proper.+proper.Given as goal

abbrev pub invariant-are_proper-loop-statement : goal.invariant-are_proper-loop-statement
invariant-are_proper-loop-statement l = are_proper (statements (drop l.statement-index l.block)) ≡ are_proper (statements l.block)
