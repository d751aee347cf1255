use Rattle.std.proofs.Common.{sym, subst}
use Rattle.semantics.specs.Contents.{Heeds}
use Rattle.semantics.proofs.HonestRuns.{load-inside, kept-answers}
use Rattle.semantics.proofs.honesty.kept_memory_answers.Goals as goal

pub returns : goal.returns
returns c = record {
  inside = load-inside;
  answers = λ s cs m i it at kind site h e. subst (λ k. Heeds s cs k (m at)) (sym e) (kept-answers s cs m i it at kind site h e);
}
