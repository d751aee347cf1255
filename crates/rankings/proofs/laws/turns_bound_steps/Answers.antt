use Rattle.rankings.proofs.Short.{steps_counted}
use Rattle.rankings.proofs.laws.turns_bound_steps.Goals as goal

pub returns : goal.returns
returns c = steps_counted
