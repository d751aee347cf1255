use Rattle.std.proofs.Common.{ap, subst, ◌≡◌, ◌∙◌, map, MatchResult}
use Rattle.linear.specs.Forms.{form}
use Rattle.facts.specs.Refusals.{IsMemory}
use Rattle.walk_trees.specs.Trees as trees
use Rattle.path_steps.specs.View.{value}
use Rattle.obligations.specs.Listing.{Of}
use Rattle.obligations.specs.Meetings.{value_form}
use Rattle.two_thread.proofs.NthEnd.{end_is}
use Rattle.two_thread.proofs.stops.variable_at_end.Goals as goal

pub returns : goal.returns
returns g c =
    let a = c.index-end.result.now in
    let w = end_is c.args.met.now c.args.i c.place_of_end-place.result c.index-tagged.result.now a c.place_of_end-place.ensures c.index-tagged.ensures c.index-end.ensures in
    let d = ap (λ vs. value_form (map value vs) c.args.slot) c.as_slice.ensures.value ∙ ap (λ (x : Of (trees.Ended _)). value_form x.it.arrived.variables c.args.slot) w in
    subst (λ x. MatchResult c.form_at.result (λ f. form f ≡ x) IsMemory) d c.form_at.ensures
