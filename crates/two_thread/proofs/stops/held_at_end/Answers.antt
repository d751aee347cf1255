use Rattle.std.proofs.Common.{ap, ◌∙◌, take}
use Rattle.walk_trees.specs.Trees as trees
use Rattle.path_steps.specs.View.{held_seen}
use Rattle.obligations.specs.Listing.{Of}
use Rattle.two_thread.proofs.NthEnd.{end_is}
use Rattle.two_thread.proofs.stops.held_at_end.Goals as goal

pub returns : goal.returns
returns g c =
    let a = c.index-end.result.now in
    let p = c.index-tagged.result.now in
    let w = end_is c.args.met.now c.args.i c.place_of_end-place.result p a c.place_of_end-place.ensures c.index-tagged.ensures c.index-end.ensures in
    (λ j. held_seen (take a.news (c.deref.ensures.value j)) (take a.narrowed (c.deref-2.ensures.value j))) ∙ ap (λ (x : Of (trees.Ended _)). x.it.arrived.held) w
