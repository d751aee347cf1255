use Rattle.std.proofs.Common.{ap, ◌∙◌}
use Rattle.core_code.specs.View.{statement}
use Rattle.core_code.proofs.Rows.{seen_if, seen_loop}
use Rattle.findings.proofs.sizes.+statements.Goals as goal

pub has_size-returns-in-If : goal.has_size-returns-in-If
has_size-returns-in-If t c =
    let e = ap statement c.in-If.is ∙ seen_if c.in-If.number c.in-If.test c.in-If.taken c.in-If.skipped in
    let j = rw c.as_slice.ensures.value at c.have_size.ensures in
    let k = rw c.as_slice-in-If.ensures.value at c.have_size-in-If.ensures in
    let o = rw (j, k) at c.either-inside.ensures in
    rw e (rw (c.gives_size-in-If.ensures, o) at c.either-in-If.ensures)

pub has_size-returns-in-Loop : goal.has_size-returns-in-Loop
has_size-returns-in-Loop t c =
    let e = ap statement c.in-Loop.is ∙ seen_loop c.in-Loop.number c.in-Loop.test c.in-Loop.body c.in-Loop.update in
    let j = rw c.as_slice-in-Loop.ensures.value at c.have_size-in-Loop.ensures in
    let k = rw c.as_slice-in-Loop-2.ensures.value at c.have_size-in-Loop-2.ensures in
    let o = rw (j, k) at c.either-inside-in-Loop.ensures in
    rw e (rw (c.gives_size-in-Loop.ensures, o) at c.either-in-Loop.ensures)
