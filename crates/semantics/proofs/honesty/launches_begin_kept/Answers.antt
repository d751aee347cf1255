use Rattle.semantics.proofs.HonestRuns.{opening-kept}
use Rattle.semantics.proofs.honesty.launches_begin_kept.Goals as goal

pub returns : goal.returns
returns c = opening-kept
