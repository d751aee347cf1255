use Rattle.std.proofs.Common.{◌≡◌, drop}
use Rattle.core_code.specs.View.{statements}
use Rattle.obligations.specs.Roots.{some_sets}
use Rattle.certificate_notes.proofs.kept.+sets.Given as goal

abbrev pub invariant-some_sets-loop-statement : goal.invariant-some_sets-loop-statement
invariant-some_sets-loop-statement l = some_sets l.slot (statements (drop l.statement-index l.statements)) ≡ some_sets l.slot (statements l.statements)
