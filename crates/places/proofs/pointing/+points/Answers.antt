use Rattle.std.proofs.Common.{ap, ◌∙◌}
use Rattle.core_code.specs.View.{statement}
use Rattle.core_code.proofs.Rows.{seen_if, seen_loop}
use Rattle.places.proofs.Stacking.{two, three}
use Rattle.places.proofs.pointing.+points.Goals as goal

pub points_one-returns-in_ok-points_in-in-If-2 : goal.points_one-returns-in_ok-points_in-in-If-2
points_one-returns-in_ok-points_in-in-If-2 t c =
    let e = ap statement c.in-If.is ∙ seen_if c.in-If.number c.in-If.test c.in-If.taken c.in-If.skipped in
    let j = rw c.as_slice.ensures.value at c.in_ok-points_in-in-If.ensures in
    let k = rw c.as_slice-in-If.ensures.value at c.in_ok-points_in-in-If-2.ensures in
    rw e (two _ _ _ _ _ j k)

pub points_one-returns-in_ok-points_in-in-Loop : goal.points_one-returns-in_ok-points_in-in-Loop
points_one-returns-in_ok-points_in-in-Loop t c =
    let e = ap statement c.in-Loop.is ∙ seen_loop c.in-Loop.number c.in-Loop.test c.in-Loop.body c.in-Loop.update in
    let w = c.in_ok-turned-in-Loop.ensures in
    let j = rw (c.as_slice-in-Loop.ensures.value, c.as_slice-in-Loop-2.ensures.value, c.as_slice-in-Loop-3.ensures.value, w) at c.in_ok-points_body-in-Loop.ensures in
    let k = rw (c.as_slice-in-Loop-4.ensures.value, c.as_slice-in-Loop-5.ensures.value, w) at c.in_ok-points_in-in-Loop.ensures in
    rw e (three _ _ _ _ _ _ _ (rw e at c.in_ok-push_point-in-Loop.ensures) (rw e at j) (rw e at k))
