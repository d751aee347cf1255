use Rattle.linear.specs.Forms.{form}
use Rattle.words.specs.View.{kind}
use Rattle.facts.specs.Symbols.{Fact, minus}
use Rattle.facts.proofs.Unmade.{handed}
use Rattle.walk_trees.specs.Walks.{State}
use Rattle.walk_trees.specs.Bits.{is_natural, tell_where, met}
use Rattle.path_steps.specs.View.{followed, setting as seen}
use Rattle.path_walk.proofs.BitSteps.{retold, retold_stops, told_leads, told_new_stops, told_first_stops, told_second_stops}
use Rattle.path_walk.proofs.meeting.meet_any.Goals as goal

pub returns-in_err-both : goal.returns-in_err-both
returns-in_err-both g c =
    let s = seen g.D.Domain c.args.setting.now in
    let k = kind c.args.kind in
    let x = form c.args.left.now in
    let y = form c.args.right.now in
    let make = λ (st : State g.row.D.Denot). met s st k x y in
    let first = λ (st : State g.row.D.Denot) (r : Fact). tell_where s (is_natural s st k x) (minus x r) in
    let second = λ (st : State g.row.D.Denot) (r : Fact). tell_where s (is_natural s st k y) (minus y r) in
    let l = followed c.args.path.now in
    let m = followed c.invent.new.path in
    let e = c.in_err-both.field-0.0 in
    handed c.from_residual.result e _ _ c.from_residual.ensures (told_new_stops s make first second c.met-element.result l e c.met-element.ensures c.in_err-both.ensures.leads)

pub returns-in_err-tell_order_where : goal.returns-in_err-tell_order_where
returns-in_err-tell_order_where g c =
    let s = seen g.D.Domain c.args.setting.now in
    let k = kind c.args.kind in
    let x = form c.args.left.now in
    let y = form c.args.right.now in
    let make = λ (st : State g.row.D.Denot). met s st k x y in
    let first = λ (st : State g.row.D.Denot) (r : Fact). tell_where s (is_natural s st k x) (minus x r) in
    let second = λ (st : State g.row.D.Denot) (r : Fact). tell_where s (is_natural s st k y) (minus y r) in
    let l = followed c.args.path.now in
    let m = followed c.invent.new.path in
    let e = c.in_err-tell_order_where.field-0.0 in
    let r = form c.in_ok-both.both in
    let h = retold_stops s c.is_natural-first.result (is_natural s l.state k x) (minus x r) m e c.is_natural-first.ensures c.in_err-tell_order_where.ensures in
    handed c.from_residual-in_err-tell_order_where.result e _ _ c.from_residual-in_err-tell_order_where.ensures (told_first_stops s make first second c.met-element.result r l m e c.met-element.ensures c.in_ok-both.ensures.leads h)

pub returns-in_err-tell_order_where-2 : goal.returns-in_err-tell_order_where-2
returns-in_err-tell_order_where-2 g c =
    let s = seen g.D.Domain c.args.setting.now in
    let k = kind c.args.kind in
    let x = form c.args.left.now in
    let y = form c.args.right.now in
    let make = λ (st : State g.row.D.Denot). met s st k x y in
    let first = λ (st : State g.row.D.Denot) (r : Fact). tell_where s (is_natural s st k x) (minus x r) in
    let second = λ (st : State g.row.D.Denot) (r : Fact). tell_where s (is_natural s st k y) (minus y r) in
    let l = followed c.args.path.now in
    let m = followed c.invent.new.path in
    let n = followed c.tell_order_where.new.path in
    let e = c.in_err-tell_order_where-2.field-0.0 in
    let r = form c.in_ok-both.both in
    let h = retold s c.is_natural-first.result (is_natural s l.state k x) (minus x r) m n c.is_natural-first.ensures c.in_ok-tell_order_where.ensures in
    let j = retold_stops s c.is_natural-second.result (is_natural s l.state k y) (minus y r) n e c.is_natural-second.ensures c.in_err-tell_order_where-2.ensures in
    handed c.from_residual-in_err-tell_order_where-2.result e _ _ c.from_residual-in_err-tell_order_where-2.ensures (told_second_stops s make first second c.met-element.result r l m n e c.met-element.ensures c.in_ok-both.ensures.leads h j)

pub returns : goal.returns
returns g c =
    let s = seen g.D.Domain c.args.setting.now in
    let k = kind c.args.kind in
    let x = form c.args.left.now in
    let y = form c.args.right.now in
    let make = λ (st : State g.row.D.Denot). met s st k x y in
    let first = λ (st : State g.row.D.Denot) (r : Fact). tell_where s (is_natural s st k x) (minus x r) in
    let second = λ (st : State g.row.D.Denot) (r : Fact). tell_where s (is_natural s st k y) (minus y r) in
    let l = followed c.args.path.now in
    let m = followed c.invent.new.path in
    let n = followed c.tell_order_where.new.path in
    let o = followed c.tell_order_where-2.new.path in
    let r = form c.in_ok-both.both in
    let h = retold s c.is_natural-first.result (is_natural s l.state k x) (minus x r) m n c.is_natural-first.ensures c.in_ok-tell_order_where.ensures in
    let j = retold s c.is_natural-second.result (is_natural s l.state k y) (minus y r) n o c.is_natural-second.ensures c.in_ok-tell_order_where-2.ensures in
    told_leads s make first second c.met-element.result r l m n o c.met-element.ensures c.in_ok-both.ensures.leads h j
