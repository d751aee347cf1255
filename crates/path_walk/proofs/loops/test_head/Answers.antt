use Rattle.core_code.specs.View.{term}
use Rattle.path_steps.specs.View.{followed}
use Rattle.arrival_claims.specs.View.{placed}
use Rattle.path_walk.proofs.LoopHeads.{head_halts, head_past, head_into, head_stops}
use Rattle.path_walk.proofs.loops.test_head.Goals as goal

pub returns : goal.returns
returns g c = head_into (placed g.D.Domain c.args.placing.now) c.args.number (term c.args.test.now) (followed c.args.path.now) (followed c.test_at.new.path) c.in_ok-holds.holds c.in_ok-holds.ensures (followed c.enter.new.path) c.if-not-holds.false c.in_ok-enter.ensures

pub returns-then-not-holds : goal.returns-then-not-holds
returns-then-not-holds g c = head_past (placed g.D.Domain c.args.placing.now) c.args.number (term c.args.test.now) (followed c.args.path.now) (followed c.test_at.new.path) c.in_ok-holds.holds c.in_ok-holds.ensures c.if-not-holds.true

pub returns-in_err-enter : goal.returns-in_err-enter
returns-in_err-enter g c = head_stops (placed g.D.Domain c.args.placing.now) c.args.number (term c.args.test.now) (followed c.args.path.now) (followed c.test_at.new.path) c.in_ok-holds.holds c.in_ok-holds.ensures (followed c.enter.new.path) c.in_err-enter.field-0.0 _ c.from_residual-in_err-enter.result c.from_residual-in_err-enter.ensures c.if-not-holds.false c.in_err-enter.ensures

pub returns-in_err-holds : goal.returns-in_err-holds
returns-in_err-holds g c = head_halts (placed g.D.Domain c.args.placing.now) c.args.number (term c.args.test.now) (followed c.args.path.now) (followed c.test_at.new.path) c.in_err-holds.field-0.0 _ c.from_residual.result c.from_residual.ensures c.in_err-holds.ensures
