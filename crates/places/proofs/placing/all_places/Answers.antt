use Rattle.std.proofs.Common.{sym, ◌∙◌}
use Rattle.core_code.specs.View.{statements}
use Rattle.places.proofs.Listed.{places_placed}
use Rattle.places.proofs.placing.all_places.Goals as goal

pub returns : goal.returns
returns c =
    let j = rw (c.as_slice.ensures.value, c.in_ok-all.ensures, c.new-places.ensures.items) at c.in_ok-push_placed.ensures in
    let k = rw (c.as_slice-2.ensures.value, c.in_ok-all.ensures, j) at c.in_ok-push_barriers.ensures in
    k ∙ sym (places_placed (statements c.args.body.now))
