use Rattle.semantics.proofs.HonestRuns.{front_of}
use Rattle.semantics.proofs.honesty.fronts_are_honest.Goals as goal

pub returns : goal.returns
returns c = front_of
