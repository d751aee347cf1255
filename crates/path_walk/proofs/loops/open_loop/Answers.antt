use Rattle.core_code.specs.View.{term}
use Rattle.path_steps.specs.View.{followed, turns}
use Rattle.arrival_claims.specs.View.{placed}
use Rattle.path_walk.proofs.Opening.{test_halts, past_it, into_it, enter_stops}
use Rattle.path_walk.proofs.loops.open_loop.Goals as goal

pub returns : goal.returns
returns g c = into_it (placed g.D.Domain c.args.placing.now) c.args.number c.args.again (term c.args.test.now) (turns c.args.turns.now) (followed c.args.path.now) (followed c.arrive.new.path) c.in_ok-arrive.ensures (followed c.test_at.new.path) c.in_ok-holds.holds c.in_ok-holds.ensures (followed c.enter.new.path) (turns c.turn.new.turns) c.if-not-holds.false c.in_ok-enter.ensures c.in_ok-turn.ensures

pub returns-then-not-holds : goal.returns-then-not-holds
returns-then-not-holds g c = past_it (placed g.D.Domain c.args.placing.now) c.args.number c.args.again (term c.args.test.now) (turns c.args.turns.now) (followed c.args.path.now) (followed c.arrive.new.path) c.in_ok-arrive.ensures (followed c.test_at.new.path) c.in_ok-holds.holds c.in_ok-holds.ensures c.if-not-holds.true

pub returns-in_err-holds : goal.returns-in_err-holds
returns-in_err-holds g c = test_halts (placed g.D.Domain c.args.placing.now) c.args.number c.args.again (term c.args.test.now) (turns c.args.turns.now) (followed c.args.path.now) (followed c.arrive.new.path) c.in_ok-arrive.ensures (followed c.test_at.new.path) c.in_err-holds.field-0.0 _ c.from_residual-in_err-holds.result c.from_residual-in_err-holds.ensures c.in_err-holds.ensures

pub returns-in_err-enter : goal.returns-in_err-enter
returns-in_err-enter g c = enter_stops (placed g.D.Domain c.args.placing.now) c.args.number c.args.again (term c.args.test.now) (turns c.args.turns.now) (followed c.args.path.now) (followed c.arrive.new.path) c.in_ok-arrive.ensures (followed c.test_at.new.path) c.in_ok-holds.holds c.in_ok-holds.ensures (followed c.enter.new.path) c.in_err-enter.field-0.0 _ c.from_residual-in_err-enter.result c.from_residual-in_err-enter.ensures c.if-not-holds.false c.in_err-enter.ensures
