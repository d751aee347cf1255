use Rattle.std.proofs.Common.{◌||◌, refl, ap, subst, ◌∙◌, arith}
use Rattle.core_code.specs.View.{term, array, site, statement, statements}
use Rattle.core_code.specs.declared.tree.Statement.{size-Statement}
use Rattle.core_code.specs.declared.tree.Statement.TheViews.{sized-If, sized-Loop}
use Rattle.core_code.proofs.Rows.{seen_if, seen_loop}
use Rattle.semantics.specs.Core as core
use Rattle.arrivals.specs.Loops.{have_barrier}
use Rattle.arrivals.specs.Symbolic.{draw}
use Rattle.obligations.specs.Walking.{course}
use Rattle.path_steps.specs.View.{followed, turns}
use Rattle.arrival_claims.specs.View.{placed}
use Rattle.path_walk.specs.Steps.{set_at, store_at}
use Rattle.path_walk.specs.Flows.{Goes, Fails}
use Rattle.path_walk.proofs.Flowing.{Says, step_goes, step_fails, if_fails, taken_says, skipped_says, head_goes, head_fails, open_fails, past_loop, body_fails, body_says}
use Rattle.path_walk.proofs.statements.+statements.Goals as goal

pub walk_statement-returns-in_err-walk_set-in-Set : goal.walk_statement-returns-in_err-walk_set-in-Set
walk_statement-returns-in_err-walk_set-in-Set g t c =
    let b = c.in-Set in
    step_fails (placed g.D.Domain c.args.placing.now) c.args.again (statement c.args.statement.now) (core.Set b.number b.slot (term b.value)) (ap statement b.is) (followed c.args.path.now) (followed c.walk_set.new.path) (turns c.args.turns.now) (turns c.args.turns.now) (set_at (placed g.D.Domain c.args.placing.now) b.number b.slot (term b.value)) (λ w. refl) c.in_err-walk_set-in-Set.field-0.0 c.from_residual.result c.from_residual.ensures c.in_err-walk_set-in-Set.ensures

pub walk_statement-returns-in_err-walk_store-in-Store : goal.walk_statement-returns-in_err-walk_store-in-Store
walk_statement-returns-in_err-walk_store-in-Store g t c =
    let b = c.in-Store in
    step_fails (placed g.D.Domain c.args.placing.now) c.args.again (statement c.args.statement.now) (core.Store b.number (array b.array) (site b.site) (term b.index) (term b.value)) (ap statement b.is) (followed c.args.path.now) (followed c.walk_store.new.path) (turns c.args.turns.now) (turns c.args.turns.now) (store_at (placed g.D.Domain c.args.placing.now) b.number (array b.array) (site b.site) (term b.index) (term b.value)) (λ w. refl) c.in_err-walk_store-in-Store.field-0.0 c.from_residual-in_err-walk_store-in-Store.result c.from_residual-in_err-walk_store-in-Store.ensures c.in_err-walk_store-in-Store.ensures

pub walk_statement-returns-in_ok-walk_store-in-Store : goal.walk_statement-returns-in_ok-walk_store-in-Store
walk_statement-returns-in_ok-walk_store-in-Store g t c =
    let b = c.in-Store in
    step_goes (placed g.D.Domain c.args.placing.now) c.args.again (statement c.args.statement.now) (core.Store b.number (array b.array) (site b.site) (term b.index) (term b.value)) (ap statement b.is) (followed c.args.path.now) (followed c.walk_store.new.path) (turns c.args.turns.now) (turns c.args.turns.now) (store_at (placed g.D.Domain c.args.placing.now) b.number (array b.array) (site b.site) (term b.index) (term b.value)) (λ w. refl) c.in_ok-walk_store-in-Store.ensures

pub walk_statement-returns-in_err-holds-in-If : goal.walk_statement-returns-in_err-holds-in-If
walk_statement-returns-in_err-holds-in-If g t c =
    let b = c.in-If in
    let e = ap statement b.is ∙ seen_if b.number b.test b.taken b.skipped in
    if_fails (placed g.D.Domain c.args.placing.now) c.args.again b.number (term b.test) (statements b.taken.items) (statements b.skipped.items) (statement c.args.statement.now) e (followed c.args.path.now) (followed c.test_at.new.path) (turns c.args.turns.now) (turns c.args.turns.now) c.in_err-holds-in-If.field-0.0 c.from_residual-in_err-holds-in-If.result c.from_residual-in_err-holds-in-If.ensures c.in_err-holds-in-If.ensures

pub walk_statement-walk_statements-requires : goal.walk_statement-walk_statements-requires
walk_statement-walk_statements-requires g t c κs within =
    let b = c.in-If in
    let d = ap size-Statement b.is ∙ sized-If b.number b.test b.taken b.skipped in
    rw c.as_slice.ensures.value (omega (arith, d, c.decreases), within)

pub walk_statement-walk_statements-requires-in-If : goal.walk_statement-walk_statements-requires-in-If
walk_statement-walk_statements-requires-in-If g t c κs within =
    let b = c.in-If in
    let d = ap size-Statement b.is ∙ sized-If b.number b.test b.taken b.skipped in
    rw c.as_slice-in-If.ensures.value (omega (arith, d, c.decreases), within)

pub walk_statement-walk_statements-requires-in-Loop : goal.walk_statement-walk_statements-requires-in-Loop
walk_statement-walk_statements-requires-in-Loop g t c κs within =
    let b = c.in-Loop in
    let d = ap size-Statement b.is ∙ sized-Loop b.number b.test b.body b.update in
    rw c.as_slice-in-Loop-3.ensures.value (omega (arith, d, c.decreases), within)

pub walk_statement-returns-then-holds : goal.walk_statement-returns-then-holds
walk_statement-returns-then-holds g t c =
    let b = c.in-If in
    let e = ap statement b.is ∙ seen_if b.number b.test b.taken b.skipped in
    let m = followed c.test_at.new.path in
    let o = followed c.walk_statements.new.path in
    let u = turns c.walk_statements.new.turns in
    let k = subst (λ z. Says m (turns c.args.turns.now) (draw (course (placed g.D.Domain c.args.placing.now)) (statements z)) o u c.walk_statements.result) c.as_slice.ensures.value c.walk_statements.ensures in
    taken_says (placed g.D.Domain c.args.placing.now) c.args.again b.number (term b.test) (statements b.taken.items) (statements b.skipped.items) (statement c.args.statement.now) e (followed c.args.path.now) (followed c.test_at.new.path) (turns c.args.turns.now) c.in_ok-holds-in-If.holds c.in_ok-holds-in-If.ensures o u c.walk_statements.result c.if-holds.true k

pub walk_statement-returns-else-holds : goal.walk_statement-returns-else-holds
walk_statement-returns-else-holds g t c =
    let b = c.in-If in
    let e = ap statement b.is ∙ seen_if b.number b.test b.taken b.skipped in
    let m = followed c.test_at.new.path in
    let o = followed c.walk_statements-in-If.new.path in
    let u = turns c.walk_statements-in-If.new.turns in
    let k = subst (λ z. Says m (turns c.args.turns.now) (draw (course (placed g.D.Domain c.args.placing.now)) (statements z)) o u c.walk_statements-in-If.result) c.as_slice-in-If.ensures.value c.walk_statements-in-If.ensures in
    skipped_says (placed g.D.Domain c.args.placing.now) c.args.again b.number (term b.test) (statements b.taken.items) (statements b.skipped.items) (statement c.args.statement.now) e (followed c.args.path.now) (followed c.test_at.new.path) (turns c.args.turns.now) c.in_ok-holds-in-If.holds c.in_ok-holds-in-If.ensures o u c.walk_statements-in-If.result c.if-holds.false k

pub walk_statement-returns-in_err-stop_at_head-in-Loop : goal.walk_statement-returns-in_err-stop_at_head-in-Loop
walk_statement-returns-in_err-stop_at_head-in-Loop g t c =
    let b = c.in-Loop in
    let e = ap statement b.is ∙ seen_loop b.number b.test b.body b.update in
    let y = c.holds_barrier.ensures ∙ (λ i. have_barrier (statements (c.as_slice-in-Loop.ensures.value i)) || have_barrier (statements (c.as_slice-in-Loop-2.ensures.value i))) in
    head_fails (placed g.D.Domain c.args.placing.now) c.args.again b.number (term b.test) (statements b.body.items) (statements b.update.items) (statement c.args.statement.now) e c.holds_barrier.result y (followed c.args.path.now) (turns c.args.turns.now) (followed c.stop_at_head.new.path) (turns c.stop_at_head.new.turns) c.in_err-stop_at_head-in-Loop.field-0.0 c.from_residual-in_err-stop_at_head-in-Loop.result c.if-not-holds_barrier.true c.from_residual-in_err-stop_at_head-in-Loop.ensures c.in_err-stop_at_head-in-Loop.ensures

pub walk_statement-returns-then-not-holds_barrier : goal.walk_statement-returns-then-not-holds_barrier
walk_statement-returns-then-not-holds_barrier g t c =
    let b = c.in-Loop in
    let e = ap statement b.is ∙ seen_loop b.number b.test b.body b.update in
    let y = c.holds_barrier.ensures ∙ (λ i. have_barrier (statements (c.as_slice-in-Loop.ensures.value i)) || have_barrier (statements (c.as_slice-in-Loop-2.ensures.value i))) in
    head_goes (placed g.D.Domain c.args.placing.now) c.args.again b.number (term b.test) (statements b.body.items) (statements b.update.items) (statement c.args.statement.now) e c.holds_barrier.result y (followed c.args.path.now) (turns c.args.turns.now) (followed c.stop_at_head.new.path) (turns c.stop_at_head.new.turns) c.if-not-holds_barrier.true c.in_ok-stop_at_head-in-Loop.ensures

pub walk_statement-returns-in_err-holds-in-Loop : goal.walk_statement-returns-in_err-holds-in-Loop
walk_statement-returns-in_err-holds-in-Loop g t c =
    let b = c.in-Loop in
    let e = ap statement b.is ∙ seen_loop b.number b.test b.body b.update in
    let y = c.holds_barrier.ensures ∙ (λ i. have_barrier (statements (c.as_slice-in-Loop.ensures.value i)) || have_barrier (statements (c.as_slice-in-Loop-2.ensures.value i))) in
    open_fails (placed g.D.Domain c.args.placing.now) c.args.again b.number (term b.test) (statements b.body.items) (statements b.update.items) (statement c.args.statement.now) e c.holds_barrier.result y (followed c.args.path.now) (turns c.args.turns.now) (followed c.open_loop.new.path) (turns c.open_loop.new.turns) c.in_err-holds-in-Loop.field-0.0 c.from_residual-in_err-holds-in-Loop.result c.if-not-holds_barrier.false c.from_residual-in_err-holds-in-Loop.ensures c.in_err-holds-in-Loop.ensures

pub walk_statement-returns-then-not-holds : goal.walk_statement-returns-then-not-holds
walk_statement-returns-then-not-holds g t c =
    let b = c.in-Loop in
    let e = ap statement b.is ∙ seen_loop b.number b.test b.body b.update in
    let y = c.holds_barrier.ensures ∙ (λ i. have_barrier (statements (c.as_slice-in-Loop.ensures.value i)) || have_barrier (statements (c.as_slice-in-Loop-2.ensures.value i))) in
    past_loop (placed g.D.Domain c.args.placing.now) c.args.again b.number (term b.test) (statements b.body.items) (statements b.update.items) (statement c.args.statement.now) e c.holds_barrier.result y (followed c.args.path.now) (turns c.args.turns.now) (followed c.open_loop.new.path) (turns c.open_loop.new.turns) c.in_ok-holds-in-Loop.holds c.in_ok-holds-in-Loop.ensures c.if-not-holds_barrier.false c.if-not-holds.true

pub walk_statement-returns-in_err-flow-in-Loop : goal.walk_statement-returns-in_err-flow-in-Loop
walk_statement-returns-in_err-flow-in-Loop g t c =
    let b = c.in-Loop in
    let e = ap statement b.is ∙ seen_loop b.number b.test b.body b.update in
    let y = c.holds_barrier.ensures ∙ (λ i. have_barrier (statements (c.as_slice-in-Loop.ensures.value i)) || have_barrier (statements (c.as_slice-in-Loop-2.ensures.value i))) in
    let h = c.in_err-flow-in-Loop.field-0.0 in
    let k = subst (λ z. Fails (followed c.open_loop.new.path) (turns c.open_loop.new.turns) (draw (course (placed g.D.Domain c.args.placing.now)) (statements z)) h (followed c.walk_statements-in-Loop.new.path)) c.as_slice-in-Loop-3.ensures.value c.in_err-flow-in-Loop.ensures in
    body_fails (placed g.D.Domain c.args.placing.now) c.args.again b.number (term b.test) (statements b.body.items) (statements b.update.items) (statement c.args.statement.now) e c.holds_barrier.result y (followed c.args.path.now) (turns c.args.turns.now) (followed c.open_loop.new.path) (turns c.open_loop.new.turns) c.in_ok-holds-in-Loop.holds c.in_ok-holds-in-Loop.ensures c.if-not-holds_barrier.false (followed c.walk_statements-in-Loop.new.path) (turns c.walk_statements-in-Loop.new.turns) h c.from_residual-in_err-flow-in-Loop.result c.if-not-holds.false c.from_residual-in_err-flow-in-Loop.ensures k

pub walk_statement-returns-in_ok-flow-in-Loop : goal.walk_statement-returns-in_ok-flow-in-Loop
walk_statement-returns-in_ok-flow-in-Loop g t c =
    let b = c.in-Loop in
    let e = ap statement b.is ∙ seen_loop b.number b.test b.body b.update in
    let y = c.holds_barrier.ensures ∙ (λ i. have_barrier (statements (c.as_slice-in-Loop.ensures.value i)) || have_barrier (statements (c.as_slice-in-Loop-2.ensures.value i))) in
    let f = c.in_ok-flow-in-Loop.flow in
    let k = subst (λ z. Goes (followed c.open_loop.new.path) (turns c.open_loop.new.turns) (draw (course (placed g.D.Domain c.args.placing.now)) (statements z)) f (followed c.walk_statements-in-Loop.new.path) (turns c.walk_statements-in-Loop.new.turns)) c.as_slice-in-Loop-3.ensures.value c.in_ok-flow-in-Loop.ensures in
    body_says (placed g.D.Domain c.args.placing.now) c.args.again b.number (term b.test) (statements b.body.items) (statements b.update.items) (statement c.args.statement.now) e c.holds_barrier.result y (followed c.args.path.now) (turns c.args.turns.now) (followed c.open_loop.new.path) (turns c.open_loop.new.turns) c.in_ok-holds-in-Loop.holds c.in_ok-holds-in-Loop.ensures c.if-not-holds_barrier.false (followed c.walk_statements-in-Loop.new.path) (followed c.close_loop.new.path) (turns c.walk_statements-in-Loop.new.turns) (turns c.close_loop.new.turns) f c.close_loop.result c.if-not-holds.false k c.close_loop.ensures
