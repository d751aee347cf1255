use Rattle.std.proofs.Common.{ap}
use Rattle.walk_trees.specs.Trees as trees
use Rattle.obligations.specs.Listing.{Of}
use Rattle.two_thread.proofs.NthEnd.{end_is}
use Rattle.two_thread.proofs.stops.turns_of.Goals as goal

pub returns : goal.returns
returns g c = ap (λ (a : Of (trees.Ended _)). a.it.arrived.turns) (end_is c.args.met.now c.args.i c.place_of_end-place.result c.index-tagged.result.now c.index.result.now c.place_of_end-place.ensures c.index-tagged.ensures c.index.ensures)
