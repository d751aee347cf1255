use Rattle.std.proofs.Common.{ap, ◌∙◌, take}
use Rattle.walk_trees.specs.Trees as trees
use Rattle.path_steps.specs.View.{held_seen}
use Rattle.obligations.specs.Listing.{Of}
use Rattle.two_thread.proofs.Nth.{access_is}
use Rattle.two_thread.proofs.looking.held_before.Goals as goal

pub returns : goal.returns
returns g c =
    let a = c.index-access.result.now in
    let p = c.index-tagged.result.now in
    let w = access_is c.args.met.now c.args.i c.place_of-place.result p a c.place_of-place.ensures c.index-tagged.ensures c.index-access.ensures in
    (λ j. held_seen (take a.news (c.deref.ensures.value j)) (take a.narrowed (c.deref-2.ensures.value j))) ∙ ap (λ (x : Of (trees.Access _)). x.it.held) w
