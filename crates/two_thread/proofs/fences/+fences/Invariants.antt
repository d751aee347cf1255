use Rattle.std.proofs.Common.{◌≡◌, drop}
use Rattle.core_code.specs.View.{space, statements}
use Rattle.two_thread.specs.Fences.{all_fence}
use Rattle.two_thread.proofs.fences.+fences.Given as goal

abbrev pub invariant-all_fence-loop-statement : goal.invariant-all_fence-loop-statement
invariant-all_fence-loop-statement l = all_fence (space l.space) (statements (drop l.statement-index l.statements)) ≡ all_fence (space l.space) (statements l.statements)
