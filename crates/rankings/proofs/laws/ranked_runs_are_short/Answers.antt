use Rattle.rankings.proofs.Short.{ranked_short}
use Rattle.rankings.proofs.laws.ranked_runs_are_short.Goals as goal

pub returns : goal.returns
returns c = ranked_short
