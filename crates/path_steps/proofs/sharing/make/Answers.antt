use Rattle.words.specs.View.{kind}
use Rattle.linear.specs.Forms.{form}
use Rattle.facts.proofs.Unmade.{handed}
use Rattle.path_steps.specs.View.{followed, setting as seen}
use Rattle.path_steps.proofs.SharedParts.{make_first_stops, make_left_stops, make_name_stops, make_leads}
use Rattle.path_steps.proofs.sharing.make.Goals as goal

pub returns-in_err-quotient : goal.returns-in_err-quotient
returns-in_err-quotient g c =
    let s = seen g.D.Domain c.args.setting.now in
    let x = form c.args.dividend.now in
    let y = form c.args.divisor.now in
    let l = followed c.args.path.now in
    let e = c.in_err-quotient.field-0.0 in
    let k = make_first_stops s (kind c.args.kind) x y (form c.args.product) c.quotient_element-of_quotient.result c.left_element-of_left.result x x l l l c.quotient_element-of_quotient.ensures e c.in_err-quotient.ensures.leads in
    handed c.from_residual.result e _ _ c.from_residual.ensures k

pub returns-in_err-left : goal.returns-in_err-left
returns-in_err-left g c =
    let s = seen g.D.Domain c.args.setting.now in
    let x = form c.args.dividend.now in
    let y = form c.args.divisor.now in
    let l = followed c.args.path.now in
    let m = followed c.invent.new.path in
    let e = c.in_err-left.field-0.0 in
    let k = make_left_stops s (kind c.args.kind) x y (form c.args.product) c.quotient_element-of_quotient.result c.left_element-of_left.result (form c.in_ok-quotient.quotient) x l m m c.quotient_element-of_quotient.ensures e c.in_ok-quotient.ensures.leads c.in_err-left.ensures.refused in
    handed c.from_residual-in_err-left.result e _ _ c.from_residual-in_err-left.ensures k

pub returns-in_err-name : goal.returns-in_err-name
returns-in_err-name g c =
    let s = seen g.D.Domain c.args.setting.now in
    let x = form c.args.dividend.now in
    let y = form c.args.divisor.now in
    let l = followed c.args.path.now in
    let m = followed c.invent.new.path in
    let n = followed c.know_parts.new.path in
    let e = c.in_err-name.field-0.0 in
    let k = make_name_stops s (kind c.args.kind) x y (form c.args.product) c.quotient_element-of_quotient.result c.left_element-of_left.result (form c.in_ok-quotient.quotient) (form c.in_ok-left.left) l m n c.quotient_element-of_quotient.ensures c.left_element-of_left.ensures c.in_ok-quotient.ensures.leads c.in_ok-left.ensures.leads c.in_ok-left.ensures.state c.in_ok-left.ensures.left e c.in_err-name.ensures.leads in
    handed c.from_residual-in_err-name.result e _ _ c.from_residual-in_err-name.ensures k

pub returns : goal.returns
returns g c =
    let s = seen g.D.Domain c.args.setting.now in
    let x = form c.args.dividend.now in
    let y = form c.args.divisor.now in
    let l = followed c.args.path.now in
    let m = followed c.invent.new.path in
    let n = followed c.know_parts.new.path in
    let o = followed c.named_by.new.path in
    make_leads s (kind c.args.kind) x y (form c.args.product) c.quotient_element-of_quotient.result c.left_element-of_left.result (form c.in_ok-quotient.quotient) (form c.in_ok-left.left) l m n c.quotient_element-of_quotient.ensures c.left_element-of_left.ensures c.in_ok-quotient.ensures.leads c.in_ok-left.ensures.leads c.in_ok-left.ensures.state c.in_ok-left.ensures.left (form c.in_ok-name.name) o (followed c.keep.new.path) c.keep.result c.in_ok-name.ensures.leads c.keep.ensures
