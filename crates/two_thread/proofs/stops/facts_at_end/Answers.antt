use Rattle.std.proofs.Common.{ap, ◌∙◌, ◌++◌, take}
use Rattle.linear.specs.Forms.{forms}
use Rattle.linear.proofs.FormLists.{forms-take}
use Rattle.walk_trees.specs.Trees as trees
use Rattle.obligations.specs.Listing.{Of}
use Rattle.two_thread.proofs.NthEnd.{end_is}
use Rattle.two_thread.proofs.stops.facts_at_end.Goals as goal

pub returns : goal.returns
returns g c =
    let a = c.index.result.now in
    let p = c.index-tagged.result.now in
    c.in_ok-copy_all.ensures ∙ ap (λ l. forms c.args.facts.now.items ++ l) (
    ap (λ l. forms (take a.facts l)) c.deref.ensures.value
    ∙ forms-take a.facts p.path.facts.items
    ∙ ap (λ (x : Of (trees.Ended _)). x.it.facts) (end_is c.args.met.now c.args.i c.place_of_end-place.result p a c.place_of_end-place.ensures c.index-tagged.ensures c.index.ensures))
