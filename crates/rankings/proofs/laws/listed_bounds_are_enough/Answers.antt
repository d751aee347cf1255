use Rattle.rankings.proofs.Short.{listed_short}
use Rattle.rankings.proofs.Listed.{limits-are}
use Rattle.rankings.proofs.laws.listed_bounds_are_enough.Goals as goal

pub returns : goal.returns
returns c = record { short = listed_short; fitting = limits-are }
