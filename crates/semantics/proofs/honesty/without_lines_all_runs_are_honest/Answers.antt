use Rattle.semantics.proofs.HonestRuns.{honest-none, kept-none, pair_safe-none, pair_safe-back}
use Rattle.semantics.proofs.honesty.without_lines_all_runs_are_honest.Goals as goal

pub returns : goal.returns
returns c = record { honest = honest-none; kept = kept-none; pair_safe = λ s bound. (pair_safe-none s bound, pair_safe-back s bound) }
