use Rattle.linear.specs.Forms.{form}
use Rattle.words.specs.View.{kind}
use Rattle.facts.specs.Symbols.{Fact, minus}
use Rattle.facts.proofs.Unmade.{handed}
use Rattle.walk_trees.specs.Walks.{State}
use Rattle.walk_trees.specs.Bits.{is_natural, tell_where}
use Rattle.walk_trees.specs.Shifts.{right_element}
use Rattle.path_steps.specs.View.{followed, setting as seen}
use Rattle.path_walk.proofs.BitSteps.{retold, retold_stops, once_leads, once_new_stops, once_stops}
use Rattle.path_walk.proofs.sliding.right_any.Goals as goal

pub returns-in_err-shifted : goal.returns-in_err-shifted
returns-in_err-shifted g c =
    let s = seen g.D.Domain c.args.setting.now in
    let k = kind c.args.kind in
    let x = form c.args.of.now in
    let make = λ (st : State g.row.D.Denot). right_element s st k x in
    let tell = λ (st : State g.row.D.Denot) (r : Fact). tell_where s (is_natural s st k x) (minus x r) in
    let l = followed c.args.path.now in
    let e = c.in_err-shifted.field-0.0 in
    handed c.from_residual.result e _ _ c.from_residual.ensures (once_new_stops s make tell c.right_element-element.result l e c.right_element-element.ensures c.in_err-shifted.ensures.leads)

pub returns-in_err-tell_order_where : goal.returns-in_err-tell_order_where
returns-in_err-tell_order_where g c =
    let s = seen g.D.Domain c.args.setting.now in
    let k = kind c.args.kind in
    let x = form c.args.of.now in
    let make = λ (st : State g.row.D.Denot). right_element s st k x in
    let tell = λ (st : State g.row.D.Denot) (r : Fact). tell_where s (is_natural s st k x) (minus x r) in
    let l = followed c.args.path.now in
    let m = followed c.invent.new.path in
    let e = c.in_err-tell_order_where.field-0.0 in
    let r = form c.in_ok-shifted.shifted in
    let h = retold_stops s c.is_natural-is_natural.result (is_natural s l.state k x) (minus x r) m e c.is_natural-is_natural.ensures c.in_err-tell_order_where.ensures in
    handed c.from_residual-in_err-tell_order_where.result e _ _ c.from_residual-in_err-tell_order_where.ensures (once_stops s make tell c.right_element-element.result r l m e c.right_element-element.ensures c.in_ok-shifted.ensures.leads h)

pub returns : goal.returns
returns g c =
    let s = seen g.D.Domain c.args.setting.now in
    let k = kind c.args.kind in
    let x = form c.args.of.now in
    let make = λ (st : State g.row.D.Denot). right_element s st k x in
    let tell = λ (st : State g.row.D.Denot) (r : Fact). tell_where s (is_natural s st k x) (minus x r) in
    let l = followed c.args.path.now in
    let m = followed c.invent.new.path in
    let n = followed c.tell_order_where.new.path in
    let r = form c.in_ok-shifted.shifted in
    let h = retold s c.is_natural-is_natural.result (is_natural s l.state k x) (minus x r) m n c.is_natural-is_natural.ensures c.in_ok-tell_order_where.ensures in
    once_leads s make tell c.right_element-element.result r l m n c.right_element-element.ensures c.in_ok-shifted.ensures.leads h
