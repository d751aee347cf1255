use Rattle.std.proofs.Common.{ap, ◌∙◌}
use Rattle.core_code.specs.View.{statement}
use Rattle.core_code.proofs.Rows.{seen_if, seen_loop}
use Rattle.places.proofs.faults.+unmet.Goals as goal

pub unmet_one-returns-in-If : goal.unmet_one-returns-in-If
unmet_one-returns-in-If t c =
    let e = ap statement c.in-If.is ∙ seen_if c.in-If.number c.in-If.test c.in-If.taken c.in-If.skipped in
    let j = rw c.as_slice.ensures.value at c.unmet.ensures in
    let k = rw c.as_slice-in-If.ensures.value at c.unmet-in-If.ensures in
    rw e (rw (j, k) at c.first_of.ensures)

pub unmet_one-returns-in-Loop : goal.unmet_one-returns-in-Loop
unmet_one-returns-in-Loop t c =
    let e = ap statement c.in-Loop.is ∙ seen_loop c.in-Loop.number c.in-Loop.test c.in-Loop.body c.in-Loop.update in
    let o = rw (c.as_slice-in-Loop.ensures.value, c.as_slice-in-Loop-2.ensures.value) at c.own_fault-own.ensures in
    let j = rw c.as_slice-in-Loop-3.ensures.value at c.unmet-in-Loop.ensures in
    let k = rw c.as_slice-in-Loop-4.ensures.value at c.unmet-in-Loop-2.ensures in
    rw e (rw (o, rw (j, k) at c.first_of-inside.ensures) at c.first_of-in-Loop.ensures)
