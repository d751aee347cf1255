use Rattle.std.proofs.Common.{ap, ◌∙◌}
use Rattle.core_code.specs.View.{statement}
use Rattle.core_code.proofs.Rows.{seen_if, seen_loop}
use Rattle.sound_cores.proofs.declaring.+within.Goals as goal

pub is_within-returns-in-If : goal.is_within-returns-in-If
is_within-returns-in-If t c =
    let e = ap statement c.in-If.is ∙ seen_if c.in-If.number c.in-If.test c.in-If.taken c.in-If.skipped in
    let j = rw c.as_slice.ensures.value at c.are_within.ensures in
    let k = rw c.as_slice-in-If.ensures.value at c.are_within-in-If.ensures in
    rw e (rw (c.is_term_within-in-If.ensures, j, k) at c.all_three.ensures)

pub is_within-returns-in-Loop : goal.is_within-returns-in-Loop
is_within-returns-in-Loop t c =
    let e = ap statement c.in-Loop.is ∙ seen_loop c.in-Loop.number c.in-Loop.test c.in-Loop.body c.in-Loop.update in
    let j = rw c.as_slice-in-Loop.ensures.value at c.are_within-in-Loop.ensures in
    let k = rw c.as_slice-in-Loop-2.ensures.value at c.are_within-in-Loop-2.ensures in
    rw e (rw (c.is_term_within-in-Loop.ensures, j, k) at c.all_three-in-Loop.ensures)
