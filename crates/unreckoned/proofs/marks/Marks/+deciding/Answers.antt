use Rattle.std.proofs.Common.{ap, ◌∙◌}
use Rattle.core_code.specs.View.{statement}
use Rattle.core_code.proofs.Rows.{seen_if, seen_loop}
use Rattle.unreckoned.proofs.marks.Marks.+deciding.Goals as goal

pub decides_in-returns-in-If : goal.decides_in-returns-in-If
decides_in-returns-in-If t c =
    let e = ap statement c.in-If.is ∙ seen_if c.in-If.number c.in-If.test c.in-If.taken c.in-If.skipped in
    let j = rw c.as_slice.ensures.value at c.decides_in_any.ensures in
    let k = rw c.as_slice-in-If.ensures.value at c.decides_in_any-in-If.ensures in
    rw e (rw (c.decides_test.ensures, j, k) at c.any.ensures)

pub decides_in-returns-in-Loop : goal.decides_in-returns-in-Loop
decides_in-returns-in-Loop t c =
    let e = ap statement c.in-Loop.is ∙ seen_loop c.in-Loop.number c.in-Loop.test c.in-Loop.body c.in-Loop.update in
    let j = rw c.as_slice-in-Loop.ensures.value at c.decides_in_any-in-Loop.ensures in
    let k = rw c.as_slice-in-Loop-2.ensures.value at c.decides_in_any-in-Loop-2.ensures in
    rw e (rw (c.decides_test-in-Loop.ensures, j, k) at c.any-in-Loop.ensures)
