use Rattle.std.proofs.Common.{◌≡◌, drop}
use Rattle.core_code.specs.View.{statements}
use Rattle.unreckoned.specs.Marking.{mark_all}
use Rattle.unreckoned.specs.View.{marks}
use Rattle.unreckoned.proofs.marks.Marks.+marking.Given as goal

abbrev pub invariant-mark_all-loop-statement : goal.invariant-mark_all-loop-statement
invariant-mark_all-loop-statement l = mark_all (marks l.self) (statements (drop l.statement-index l.body)) ≡ mark_all (marks l.fn.self) (statements l.body)
