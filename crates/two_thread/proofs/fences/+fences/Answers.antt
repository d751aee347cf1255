use Rattle.std.proofs.Common.{ap, ◌∙◌}
use Rattle.core_code.specs.View.{statement}
use Rattle.core_code.proofs.Rows.{seen_if, seen_loop}
use Rattle.two_thread.proofs.fences.+fences.Goals as goal

pub fences-returns-in-If : goal.fences-returns-in-If
fences-returns-in-If t c =
    let e = ap statement c.in-If.is ∙ seen_if c.in-If.number c.in-If.test c.in-If.taken c.in-If.skipped in
    let j = rw c.as_slice.ensures.value at c.all_fence.ensures in
    let k = rw c.as_slice-in-If.ensures.value at c.all_fence-in-If.ensures in
    rw e (rw (j, k) at c.both.ensures)

pub fences-returns-in-Loop : goal.fences-returns-in-Loop
fences-returns-in-Loop t c =
    let e = ap statement c.in-Loop.is ∙ seen_loop c.in-Loop.number c.in-Loop.test c.in-Loop.body c.in-Loop.update in
    let j = rw c.as_slice-in-Loop.ensures.value at c.all_fence-in-Loop.ensures in
    let k = rw c.as_slice-in-Loop-2.ensures.value at c.all_fence-in-Loop-2.ensures in
    rw e (rw (j, k) at c.both-in-Loop.ensures)
