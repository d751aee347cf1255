use Rattle.semantics.proofs.Arrivals.{ends-by_list, ends-now}
use Rattle.semantics.proofs.solo_runs.arrivals_end.Goals as goal

pub returns : goal.returns
returns c = λ s i j. (ends-by_list s i j, ends-now s i j)
