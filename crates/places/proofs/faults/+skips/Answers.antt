use Rattle.std.proofs.Common.{ap, ◌∙◌}
use Rattle.core_code.specs.View.{statement}
use Rattle.core_code.proofs.Rows.{seen_if}
use Rattle.places.proofs.faults.+skips.Goals as goal

pub skips-returns-in-If : goal.skips-returns-in-If
skips-returns-in-If t c =
    let e = ap statement c.in-If.is ∙ seen_if c.in-If.number c.in-If.test c.in-If.taken c.in-If.skipped in
    let j = rw c.as_slice.ensures.value at c.skip.ensures in
    let k = rw c.as_slice-in-If.ensures.value at c.skip-in-If.ensures in
    rw e (rw (j, k) at c.either.ensures)
