use Rattle.std.proofs.Common.{ap, ◌∙◌, subst}
use Rattle.core_code.specs.View.{term, statement, statements}
use Rattle.core_code.proofs.Rows.{seen_loop}
use Rattle.path_steps.specs.View.{followed, turns}
use Rattle.arrival_claims.specs.View.{placed}
use Rattle.places.specs.View.{left}
use Rattle.path_walk.specs.declared.flow.Flow.TheVariants.{Through}
use Rattle.path_walk.specs.Heads.{TurnsOn, NotTurned}
use Rattle.path_walk.proofs.Beginning.{LeftSays, head_fails, past_head, turn_fails, turn_goes}
use Rattle.path_walk.proofs.heads.walk_head.Goals as goal

pub returns-in_err-holds-in-Loop : goal.returns-in_err-holds-in-Loop
returns-in_err-holds-in-Loop g c =
    let b = c.in-Loop in
    let d = ap statement b.is ∙ seen_loop b.number b.test b.body b.update in
    let m = followed c.test_head.new.path in
    head_fails (placed g.D.Domain c.args.placing.now) b.number (term b.test) (statements b.body.items) (statements b.update.items) (statement c.args.head.now.statement.now) d (left c.args.head.now.rest.items) (followed c.args.path.now) m m (turns c.args.turns.now) c.in_err-holds-in-Loop.field-0.0 c.from_residual.result c.from_residual.ensures c.in_err-holds-in-Loop.ensures

pub returns-then-not-holds : goal.returns-then-not-holds
returns-then-not-holds g c =
    let p = placed g.D.Domain c.args.placing.now in
    let b = c.in-Loop in
    let d = ap statement b.is ∙ seen_loop b.number b.test b.body b.update in
    let m = followed c.test_head.new.path in
    let o = followed c.walk_left.new.path in
    let t = turns c.args.turns.now in
    let r = c.walk_left.result in
    let h = subst (λ z. LeftSays p (left z) Through m t o r) c.as_slice-rests.ensures.value c.walk_left.ensures in
    past_head p b.number (term b.test) (statements b.body.items) (statements b.update.items) (statement c.args.head.now.statement.now) d (left c.args.head.now.rest.items) (followed c.args.path.now) m o t c.in_ok-holds-in-Loop.holds c.in_ok-holds-in-Loop.ensures r c.if-not-holds.true h

pub returns-in_err-flow-in-Loop : goal.returns-in_err-flow-in-Loop
returns-in_err-flow-in-Loop g c =
    let p = placed g.D.Domain c.args.placing.now in
    let b = c.in-Loop in
    let d = ap statement b.is ∙ seen_loop b.number b.test b.body b.update in
    let s = statement c.args.head.now.statement.now in
    let m = followed c.test_head.new.path in
    let o = followed c.turn_on.new.path in
    let t = turns c.args.turns.now in
    let h = c.in_err-flow-in-Loop.field-0.0 in
    let k = subst (λ y. NotTurned p (statements y) (statements c.as_slice-update.result.now) s m t h o) c.as_slice-body.ensures.value c.in_err-flow-in-Loop.ensures in
    let j = subst (λ y. NotTurned p (statements b.body.items) (statements y) s m t h o) c.as_slice-update.ensures.value k in
    turn_fails p b.number (term b.test) (statements b.body.items) (statements b.update.items) s d (left c.args.head.now.rest.items) (followed c.args.path.now) m o t c.in_ok-holds-in-Loop.holds c.in_ok-holds-in-Loop.ensures h c.from_residual-in_err-flow-in-Loop.result c.if-not-holds.false c.from_residual-in_err-flow-in-Loop.ensures j

pub returns-in_ok-flow-in-Loop : goal.returns-in_ok-flow-in-Loop
returns-in_ok-flow-in-Loop g c =
    let p = placed g.D.Domain c.args.placing.now in
    let b = c.in-Loop in
    let d = ap statement b.is ∙ seen_loop b.number b.test b.body b.update in
    let s = statement c.args.head.now.statement.now in
    let m = followed c.test_head.new.path in
    let x = followed c.turn_on.new.path in
    let o = followed c.walk_left-in-Loop.new.path in
    let t = turns c.args.turns.now in
    let u = turns c.turn_on.new.turns in
    let f = c.in_ok-flow-in-Loop.flow in
    let r = c.walk_left-in-Loop.result in
    let k = subst (λ y. TurnsOn p (statements y) (statements c.as_slice-update.result.now) s m t f x u) c.as_slice-body.ensures.value c.in_ok-flow-in-Loop.ensures in
    let j = subst (λ y. TurnsOn p (statements b.body.items) (statements y) s m t f x u) c.as_slice-update.ensures.value k in
    let h = subst (λ z. LeftSays p (left z) f x u o r) c.as_slice-rests.ensures.value c.walk_left-in-Loop.ensures in
    turn_goes p b.number (term b.test) (statements b.body.items) (statements b.update.items) s d (left c.args.head.now.rest.items) (followed c.args.path.now) m o t c.in_ok-holds-in-Loop.holds c.in_ok-holds-in-Loop.ensures x u f r c.if-not-holds.false j h
