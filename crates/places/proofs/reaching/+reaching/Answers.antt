use Rattle.std.proofs.Common.{ap, sym, ◌∙◌}
use Rattle.core_code.specs.View.{statement}
use Rattle.core_code.proofs.Rows.{seen_if, seen_loop}
use Rattle.places.proofs.reaching.+reaching.Goals as goal

pub from_statement-returns-in_ok-second-in-If : goal.from_statement-returns-in_ok-second-in-If
from_statement-returns-in_ok-second-in-If t c =
    let e = ap statement c.in-If.is ∙ seen_if c.in-If.number c.in-If.test c.in-If.taken c.in-If.skipped in
    let j = rw (c.as_slice.ensures.value, c.in_ok-again-in-If.ensures) at c.in_ok-first-in-If.ensures in
    let k = rw c.as_slice-in-If.ensures.value at c.in_ok-second-in-If.ensures in
    rw e (rw (j, k) at c.join.ensures)

pub from_statement-returns-then-holds_barrier : goal.from_statement-returns-then-holds_barrier
from_statement-returns-then-holds_barrier t c =
    let e = ap statement c.in-Loop.is ∙ seen_loop c.in-Loop.number c.in-Loop.test c.in-Loop.body c.in-Loop.update in
    let h = rw (c.as_slice-in-Loop-2.ensures.value, c.as_slice-in-Loop-3.ensures.value) at (sym c.holds_barrier.ensures ∙ c.if-holds_barrier.true) in
    let j = rw c.as_slice-in-Loop.ensures.value at c.in_ok-inside-in-Loop.ensures in
    rw (e, h) (rw j at c.in_ok-turned-in-Loop.ensures)

pub from_statement-returns-in_ok-updated-in-Loop : goal.from_statement-returns-in_ok-updated-in-Loop
from_statement-returns-in_ok-updated-in-Loop t c =
    let e = ap statement c.in-Loop.is ∙ seen_loop c.in-Loop.number c.in-Loop.test c.in-Loop.body c.in-Loop.update in
    let h = rw (c.as_slice-in-Loop-2.ensures.value, c.as_slice-in-Loop-3.ensures.value) at (sym c.holds_barrier.ensures ∙ c.if-holds_barrier.false) in
    let j = rw c.as_slice-in-Loop.ensures.value at c.in_ok-inside-in-Loop.ensures in
    let k = rw c.as_slice-in-Loop-4.ensures.value at c.in_ok-updated-in-Loop.ensures in
    rw (e, h) (rw (j, k) at c.by_head.ensures)
