use Rattle.std.proofs.Common.{ap, sym, ◌∙◌, ◌+◌, ◌<◌, ◌^◌, arith}
use Rattle.std.proofs.lemmas.Grind.{common_steps}
use Rattle.core_code.specs.View.{term, statement, statements}
use Rattle.core_code.proofs.Rows.{seen_if, seen_loop}
use Rattle.loop_bounds.specs.Turns.{turns_of}
use Rattle.loop_bounds.specs.Costs.{loads, cost}
use Rattle.loop_bounds.proofs.Products.{a_body, an_update}
use Rattle.loop_bounds.proofs.counting.+cost.Goals as goal

pub statement_cost-returns-in_err-taken-in-If : goal.statement_cost-returns-in_err-taken-in-If
statement_cost-returns-in_err-taken-in-If t c =
    let e = ap statement c.in-If.is ∙ seen_if c.in-If.number c.in-If.test c.in-If.taken c.in-If.skipped in
    let k = rw c.as_slice.ensures.value at c.in_err-taken-in-If.ensures in
    rw e (grind (arith, common_steps, k))

pub statement_cost-returns-in_err-body_cost-in-If : goal.statement_cost-returns-in_err-body_cost-in-If
statement_cost-returns-in_err-body_cost-in-If t c =
    let e = ap statement c.in-If.is ∙ seen_if c.in-If.number c.in-If.test c.in-If.taken c.in-If.skipped in
    let k = rw c.as_slice-in-If.ensures.value at c.in_err-body_cost-in-If.ensures in
    rw e (grind (arith, common_steps, k))

pub statement_cost-returns-in_ok-body_cost-in-If : goal.statement_cost-returns-in_ok-body_cost-in-If
statement_cost-returns-in_ok-body_cost-in-If t c =
    let e = ap statement c.in-If.is ∙ seen_if c.in-If.number c.in-If.test c.in-If.taken c.in-If.skipped in
    let j = rw c.as_slice.ensures.value at c.in_ok-taken-in-If.ensures in
    let k = rw c.as_slice-in-If.ensures.value at c.in_ok-body_cost-in-If.ensures in
    rw (e, sym j, sym k) c.if_cost.ensures

pub statement_cost-returns-in_err-body-in-Loop : goal.statement_cost-returns-in_err-body-in-Loop
statement_cost-returns-in_err-body-in-Loop t c =
    let e = ap statement c.in-Loop.is ∙ seen_loop c.in-Loop.number c.in-Loop.test c.in-Loop.body c.in-Loop.update in
    let turns = turns_of c.args.bounds.now in
    let n = turns c.in-Loop.number in
    let some : 0 < n = omega (arith, c.turns_of-turns.ensures, c.if-turns-eq0.false) in
    let k = rw c.as_slice-in-Loop.ensures.value at c.in_err-body-in-Loop.ensures in
    let m = a_body (2 ^ 64) n (1 + loads (term c.in-Loop.test)) (cost turns (statements c.in-Loop.body.items)) (cost turns (statements c.in-Loop.update.items)) some k in
    rw e (grind (arith, common_steps, m))

pub statement_cost-returns-in_err-body_cost-in-Loop : goal.statement_cost-returns-in_err-body_cost-in-Loop
statement_cost-returns-in_err-body_cost-in-Loop t c =
    let e = ap statement c.in-Loop.is ∙ seen_loop c.in-Loop.number c.in-Loop.test c.in-Loop.body c.in-Loop.update in
    let turns = turns_of c.args.bounds.now in
    let n = turns c.in-Loop.number in
    let some : 0 < n = omega (arith, c.turns_of-turns.ensures, c.if-turns-eq0.false) in
    let k = rw c.as_slice-in-Loop-2.ensures.value at c.in_err-body_cost-in-Loop.ensures in
    let m = an_update (2 ^ 64) n (1 + loads (term c.in-Loop.test)) (cost turns (statements c.in-Loop.body.items)) (cost turns (statements c.in-Loop.update.items)) some k in
    rw e (grind (arith, common_steps, m))

pub statement_cost-returns-in_ok-body_cost-in-Loop : goal.statement_cost-returns-in_ok-body_cost-in-Loop
statement_cost-returns-in_ok-body_cost-in-Loop t c =
    let e = ap statement c.in-Loop.is ∙ seen_loop c.in-Loop.number c.in-Loop.test c.in-Loop.body c.in-Loop.update in
    let j = rw c.as_slice-in-Loop.ensures.value at c.in_ok-body-in-Loop.ensures in
    let k = rw c.as_slice-in-Loop-2.ensures.value at c.in_ok-body_cost-in-Loop.ensures in
    let i = c.in_ok-test-in-Loop.ensures ∙ ap (λ n. 1 + n) c.in_ok-loads-in-Loop.ensures in
    rw e (rw (i, c.turns_of-turns.ensures, j, k) at c.repeated.ensures)
