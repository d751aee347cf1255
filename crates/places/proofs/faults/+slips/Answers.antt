use Rattle.std.proofs.Common.{ap, ◌∙◌}
use Rattle.core_code.specs.View.{statement}
use Rattle.core_code.proofs.Rows.{seen_if}
use Rattle.places.proofs.faults.+slips.Goals as goal

pub slips-returns-in-If : goal.slips-returns-in-If
slips-returns-in-If t c =
    let e = ap statement c.in-If.is ∙ seen_if c.in-If.number c.in-If.test c.in-If.taken c.in-If.skipped in
    let j = rw c.as_slice.ensures.value at c.slip.ensures in
    let k = rw c.as_slice-in-If.ensures.value at c.slip-in-If.ensures in
    rw e (rw (j, k) at c.either.ensures)
