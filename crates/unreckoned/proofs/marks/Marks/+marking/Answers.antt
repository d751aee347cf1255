use Rattle.std.proofs.Common.{ap, sym, ◌∙◌}
use Rattle.core_code.specs.View.{statement, statements}
use Rattle.core_code.proofs.Rows.{seen_if, seen_loop}
use Rattle.unreckoned.specs.Marking.{mark, mark_all}
use Rattle.unreckoned.specs.View.{marks}
use Rattle.unreckoned.proofs.marks.Marks.+marking.Goals as goal

pub mark-returns-in-If : goal.mark-returns-in-If
mark-returns-in-If t c =
    let m = marks c.args.self.now in
    let e = ap statement c.in-If.is ∙ seen_if c.in-If.number c.in-If.test c.in-If.taken c.in-If.skipped in
    let j = rw c.as_slice.ensures.value at c.mark_all.ensures in
    let k = rw c.as_slice-in-If.ensures.value at c.mark_all-in-If.ensures in
    k ∙ ap (λ x. mark_all x (statements c.in-If.skipped.items)) j ∙ sym (ap (mark m) e)

pub mark-returns-in-Loop : goal.mark-returns-in-Loop
mark-returns-in-Loop t c =
    let m = marks c.args.self.now in
    let e = ap statement c.in-Loop.is ∙ seen_loop c.in-Loop.number c.in-Loop.test c.in-Loop.body c.in-Loop.update in
    let j = rw c.as_slice-in-Loop.ensures.value at c.mark_all-in-Loop.ensures in
    let k = rw c.as_slice-in-Loop-2.ensures.value at c.mark_all-in-Loop-2.ensures in
    k ∙ ap (λ x. mark_all x (statements c.in-Loop.update.items)) j ∙ sym (ap (mark m) e)
