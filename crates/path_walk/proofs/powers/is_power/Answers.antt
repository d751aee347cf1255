use Rattle.walk_trees.specs.Quotients.{is_power}
use Rattle.path_walk.proofs.PowerSizes.{one_more}
use Rattle.path_walk.proofs.powers.is_power.Goals as goal

pub loop-smaller-init : goal.loop-smaller-init
unfolding is_power
loop-smaller-init c = c.is_power_of-found.ensures

pub loop-smaller-preserved : goal.loop-smaller-preserved
loop-smaller-preserved c = one_more c.loop-smaller.smaller _ c.loop-smaller.found c.is_power_of-found-in-loop-smaller.result c.loop-smaller.invariant c.is_power_of-found-in-loop-smaller.ensures
