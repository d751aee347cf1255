use Rattle.linear.specs.Forms.{form}
use Rattle.words.specs.View.{kind}
use Rattle.facts.specs.Symbols.{Fact}
use Rattle.facts.proofs.Unmade.{handed}
use Rattle.walk_trees.specs.Walks.{State}
use Rattle.walk_trees.specs.Bits.{joined}
use Rattle.path_steps.specs.View.{followed, setting as seen}
use Rattle.path_walk.specs.BitSteps.{told_above, told_sum}
use Rattle.path_walk.proofs.BitSteps.{told_leads, told_new_stops, told_first_stops, told_second_stops}
use Rattle.path_walk.proofs.joining.join_any.Goals as goal

pub returns-in_err-joined : goal.returns-in_err-joined
returns-in_err-joined g c =
    let s = seen g.D.Domain c.args.setting.now in
    let k = kind c.args.kind in
    let x = form c.args.left.now in
    let y = form c.args.right.now in
    let make = λ (st : State g.row.D.Denot). joined s st k x y in
    let first = λ (st : State g.row.D.Denot) (r : Fact). told_above s c.args.is_or x y r in
    let second = λ (st : State g.row.D.Denot) (r : Fact). told_sum s x y r in
    let l = followed c.args.path.now in
    let m = followed c.invent.new.path in
    let e = c.in_err-joined.field-0.0 in
    handed c.from_residual.result e _ _ c.from_residual.ensures (told_new_stops s make first second c.joined-element.result l e c.joined-element.ensures c.in_err-joined.ensures.leads)

pub returns-in_err-told_above : goal.returns-in_err-told_above
returns-in_err-told_above g c =
    let s = seen g.D.Domain c.args.setting.now in
    let k = kind c.args.kind in
    let x = form c.args.left.now in
    let y = form c.args.right.now in
    let make = λ (st : State g.row.D.Denot). joined s st k x y in
    let first = λ (st : State g.row.D.Denot) (r : Fact). told_above s c.args.is_or x y r in
    let second = λ (st : State g.row.D.Denot) (r : Fact). told_sum s x y r in
    let l = followed c.args.path.now in
    let m = followed c.invent.new.path in
    let e = c.in_err-told_above.field-0.0 in
    handed c.from_residual-in_err-told_above.result e _ _ c.from_residual-in_err-told_above.ensures (told_first_stops s make first second c.joined-element.result (form c.in_ok-joined.joined) l m e c.joined-element.ensures c.in_ok-joined.ensures.leads c.in_err-told_above.ensures)

pub returns-in_err-told_sum : goal.returns-in_err-told_sum
returns-in_err-told_sum g c =
    let s = seen g.D.Domain c.args.setting.now in
    let k = kind c.args.kind in
    let x = form c.args.left.now in
    let y = form c.args.right.now in
    let make = λ (st : State g.row.D.Denot). joined s st k x y in
    let first = λ (st : State g.row.D.Denot) (r : Fact). told_above s c.args.is_or x y r in
    let second = λ (st : State g.row.D.Denot) (r : Fact). told_sum s x y r in
    let l = followed c.args.path.now in
    let m = followed c.invent.new.path in
    let e = c.in_err-told_sum.field-0.0 in
    handed c.from_residual-in_err-told_sum.result e _ _ c.from_residual-in_err-told_sum.ensures (told_second_stops s make first second c.joined-element.result (form c.in_ok-joined.joined) l m (followed c.told_above.new.path) e c.joined-element.ensures c.in_ok-joined.ensures.leads c.in_ok-told_above.ensures c.in_err-told_sum.ensures)

pub returns : goal.returns
returns g c =
    let s = seen g.D.Domain c.args.setting.now in
    let k = kind c.args.kind in
    let x = form c.args.left.now in
    let y = form c.args.right.now in
    let make = λ (st : State g.row.D.Denot). joined s st k x y in
    let first = λ (st : State g.row.D.Denot) (r : Fact). told_above s c.args.is_or x y r in
    let second = λ (st : State g.row.D.Denot) (r : Fact). told_sum s x y r in
    let l = followed c.args.path.now in
    let m = followed c.invent.new.path in
    told_leads s make first second c.joined-element.result (form c.in_ok-joined.joined) l m (followed c.told_above.new.path) (followed c.told_sum.new.path) c.joined-element.ensures c.in_ok-joined.ensures.leads c.in_ok-told_above.ensures c.in_ok-told_sum.ensures
