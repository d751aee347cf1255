use Rattle.std.proofs.Common.{ap, ◌∙◌, ◌++◌, take}
use Rattle.linear.specs.Forms.{forms}
use Rattle.linear.proofs.FormLists.{forms-take}
use Rattle.walk_trees.specs.Trees as trees
use Rattle.obligations.specs.Listing.{Of}
use Rattle.two_thread.proofs.Nth.{access_is}
use Rattle.two_thread.proofs.looking.facts_before.Goals as goal

pub returns : goal.returns
returns g c =
    let a = c.index.result.now in
    let p = c.index-tagged.result.now in
    c.in_ok-copy_all.ensures ∙ ap (λ l. forms c.args.facts.now.items ++ l) (
    ap (λ l. forms (take a.facts l)) c.deref.ensures.value
    ∙ forms-take a.facts p.path.facts.items
    ∙ ap (λ (x : Of (trees.Access _)). x.it.facts) (access_is c.args.met.now c.args.i c.place_of-place.result p a c.place_of-place.ensures c.index-tagged.ensures c.index.ensures))
