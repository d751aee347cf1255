use Rattle.std.proofs.Common.{ap, ◌∙◌, ◌++◌, take}
use Rattle.std.proofs.lemmas.Bool.{and_parts}
use Rattle.linear.specs.Forms.{forms}
use Rattle.linear.proofs.FormLists.{forms-take}
use Rattle.walk_trees.specs.Trees as trees
use Rattle.obligations.specs.Listing.{Of}
use Rattle.walk_trees.specs.Seconds.{are_own, second_forms}
use Rattle.obligations.specs.Owning.{are_own_values}
use Rattle.two_thread.specs.View.{met_end}
use Rattle.two_thread.proofs.NthEnd.{end_is, met-own_end}
use Rattle.two_thread.proofs.stops.second_facts_at_end.Goals as goal

pub push_seconds-requires : goal.push_seconds-requires
push_seconds-requires g c =
    let a = c.index.result.now in
    let p = c.index-tagged.result.now in
    let m = c.args.met.now in
    ap (λ l. are_own (forms (take a.facts l))) c.deref.ensures.value
    ∙ ap are_own (forms-take a.facts p.path.facts.items ∙ ap (λ (x : Of (trees.Ended _)). x.it.facts) (end_is m c.args.i c.place_of_end-place.result p a c.place_of_end-place.ensures c.index-tagged.ensures c.index.ensures))
    ∙ (and_parts (are_own_values (met_end m c.args.i).it.arrived.variables) (are_own (met_end m c.args.i).it.facts) (met-own_end m c.args.i c.requires)).1

pub returns : goal.returns
returns g c =
    let a = c.index.result.now in
    let p = c.index-tagged.result.now in
    c.in_ok-push_seconds.ensures ∙ ap (λ l. forms c.args.facts.now.items ++ second_forms l) (
    ap (λ l. forms (take a.facts l)) c.deref.ensures.value
    ∙ forms-take a.facts p.path.facts.items
    ∙ ap (λ (x : Of (trees.Ended _)). x.it.facts) (end_is c.args.met.now c.args.i c.place_of_end-place.result p a c.place_of_end-place.ensures c.index-tagged.ensures c.index.ensures))
