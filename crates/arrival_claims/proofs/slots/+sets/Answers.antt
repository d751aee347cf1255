use Rattle.std.proofs.Common.{ap, ◌∙◌}
use Rattle.core_code.specs.View.{statement}
use Rattle.core_code.proofs.Rows.{seen_if, seen_loop}
use Rattle.arrival_claims.proofs.slots.+sets.Goals as goal

pub sets-returns-in-If : goal.sets-returns-in-If
sets-returns-in-If t c =
    let e = ap statement c.in-If.is ∙ seen_if c.in-If.number c.in-If.test c.in-If.taken c.in-If.skipped in
    let j = rw c.as_slice.ensures.value at c.some_sets.ensures in
    let k = rw c.as_slice-in-If.ensures.value at c.some_sets-in-If.ensures in
    rw e (rw (j, k) at c.either.ensures)

pub sets-returns-in-Loop : goal.sets-returns-in-Loop
sets-returns-in-Loop t c =
    let e = ap statement c.in-Loop.is ∙ seen_loop c.in-Loop.number c.in-Loop.test c.in-Loop.body c.in-Loop.update in
    let j = rw c.as_slice-in-Loop.ensures.value at c.some_sets-in-Loop.ensures in
    let k = rw c.as_slice-in-Loop-2.ensures.value at c.some_sets-in-Loop-2.ensures in
    rw e (rw (j, k) at c.either-in-Loop.ensures)
