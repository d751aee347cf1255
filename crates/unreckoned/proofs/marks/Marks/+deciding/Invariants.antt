use Rattle.std.proofs.Common.{◌≡◌, drop}
use Rattle.core_code.specs.View.{statements}
use Rattle.unreckoned.specs.Deciding.{decides_in_any}
use Rattle.unreckoned.specs.View.{marks}
use Rattle.unreckoned.proofs.marks.Marks.+deciding.Given as goal

abbrev pub invariant-decides_in_any-loop-statement : goal.invariant-decides_in_any-loop-statement
invariant-decides_in_any-loop-statement l = decides_in_any (marks l.self) (statements (drop l.statement-index l.body)) ≡ decides_in_any (marks l.self) (statements l.body)
