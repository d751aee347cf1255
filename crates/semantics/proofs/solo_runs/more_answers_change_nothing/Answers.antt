use Rattle.semantics.proofs.MoreAnswers.{more_give}
use Rattle.semantics.proofs.solo_runs.more_answers_change_nothing.Goals as goal

pub returns : goal.returns
returns c = more_give
