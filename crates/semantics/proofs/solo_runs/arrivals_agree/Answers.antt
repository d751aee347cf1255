use Rattle.semantics.proofs.Arrivals.{alike-by_list, alike-now}
use Rattle.semantics.proofs.solo_runs.arrivals_agree.Goals as goal

pub returns : goal.returns
returns c = λ s i j. (alike-by_list s i j, alike-now s i j)
