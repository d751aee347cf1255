use Rattle.core_code.specs.View.{statement, statements}
use Rattle.path_steps.specs.View.{followed, turns}
use Rattle.arrival_claims.specs.View.{placed}
use Rattle.path_walk.proofs.Beginning.{body_fails, update_fails, turn_says}
use Rattle.path_walk.proofs.heads.turn_on.Goals as goal

pub returns-in_err-flow : goal.returns-in_err-flow
returns-in_err-flow g c =
    let m = followed c.walk_fronts.new.path in
    let u = turns c.walk_fronts.new.turns in
    body_fails (placed g.D.Domain c.args.placing.now) (statements c.args.body.now) (statements c.args.update.now) (statement c.args.statement.now) (followed c.args.path.now) m m m (turns c.args.turns.now) u u u c.in_err-flow.field-0.0 c.from_residual.result c.from_residual.ensures c.in_err-flow.ensures

pub returns-in_err-flow-2 : goal.returns-in_err-flow-2
returns-in_err-flow-2 g c =
    let m = followed c.walk_fronts.new.path in
    let u = turns c.walk_fronts.new.turns in
    let o = followed c.walk_fronts-2.new.path in
    let x = turns c.walk_fronts-2.new.turns in
    update_fails (placed g.D.Domain c.args.placing.now) (statements c.args.body.now) (statements c.args.update.now) (statement c.args.statement.now) (followed c.args.path.now) m o o (turns c.args.turns.now) u x x c.in_ok-flow.flow c.in_ok-flow.ensures c.in_err-flow-2.field-0.0 c.from_residual-in_err-flow-2.result c.from_residual-in_err-flow-2.ensures c.in_err-flow-2.ensures

pub returns : goal.returns
returns g c =
    let m = followed c.walk_fronts.new.path in
    let u = turns c.walk_fronts.new.turns in
    let n = followed c.walk_fronts-2.new.path in
    let w = turns c.walk_fronts-2.new.turns in
    turn_says (placed g.D.Domain c.args.placing.now) (statements c.args.body.now) (statements c.args.update.now) (statement c.args.statement.now) (followed c.args.path.now) m n (followed c.walk_front.new.path) (turns c.args.turns.now) u w (turns c.walk_front.new.turns) c.in_ok-flow.flow c.in_ok-flow.ensures c.in_ok-flow-2.flow c.in_ok-flow-2.ensures c.walk_front.result c.walk_front.ensures
