use Rattle.std.proofs.Common.{ap}
use Rattle.walk_trees.specs.Trees as trees
use Rattle.obligations.specs.Listing.{Of}
use Rattle.two_thread.proofs.Nth.{access_is}
use Rattle.two_thread.proofs.looking.index_of.Goals as goal

pub returns : goal.returns
returns g c = ap (λ (a : Of (trees.Access _)). a.it.index) (access_is c.args.met.now c.args.i c.place_of-place.result c.index-tagged.result.now c.index.result.now c.place_of-place.ensures c.index-tagged.ensures c.index.ensures)
