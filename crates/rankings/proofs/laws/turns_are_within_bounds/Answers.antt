use Rattle.rankings.proofs.Bounded.{within_bounds}
use Rattle.rankings.proofs.laws.turns_are_within_bounds.Goals as goal

pub returns : goal.returns
returns c = within_bounds
