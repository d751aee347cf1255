use Rattle.std.proofs.Common.{◌≡◌, ◌+◌, ℕ}
use Rattle.core_code.specs.View.{statements}
use Rattle.unreckoned.specs.Marking.{passed}
use Rattle.unreckoned.specs.View.{marks}
use Rattle.unreckoned.proofs.marks.Marks.of.Given as goal

abbrev pub invariant-loop-pass : goal.invariant-loop-pass
invariant-loop-pass l = (left : ℕ) → left + l._pass ≡ 16 → passed left (statements l.core.body.items) (marks l.marks) ≡ passed 16 (statements l.core.body.items) (marks l.initial.marks)
