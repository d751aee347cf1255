use Rattle.path_walk.proofs.BitPlaces.{first_bit, higher_bit}
use Rattle.path_walk.proofs.bit_places.bit_of.Goals as goal

pub loop-smaller-init : goal.loop-smaller-init
loop-smaller-init c = first_bit _ c.place_or-found.result c.is_power_of.result c.is_power_of.ensures c.place_or-found.ensures

pub loop-smaller-preserved : goal.loop-smaller-preserved
loop-smaller-preserved c = higher_bit c.loop-smaller.smaller _ c.loop-smaller.found c.place_or-found-in-loop-smaller.result c.is_power_of-in-loop-smaller.result c.loop-smaller.invariant c.is_power_of-in-loop-smaller.ensures c.place_or-found-in-loop-smaller.ensures
