use Rattle.rankings.proofs.LoopFreeKept.{within_the_cost}
use Rattle.rankings.proofs.loop_free.steps_are_within_the_cost.Goals as goal

pub returns : goal.returns
returns c = within_the_cost
