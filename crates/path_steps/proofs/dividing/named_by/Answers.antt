use Rattle.linear.specs.Forms.{form}
use Rattle.facts.proofs.Unmade.{handed}
use Rattle.path_steps.specs.View.{followed, setting as seen}
use Rattle.path_steps.proofs.Quotients.{named_leads, named_new_stops, named_first_stops, named_second_stops}
use Rattle.path_steps.proofs.dividing.named_by.Goals as goal

pub returns-clause-leads : goal.returns-clause-leads
returns-clause-leads g c =
    named_leads (seen g.D.Domain c.args.setting.now) c.args.element (form c.args.left.now) (form c.in_ok-name.name) (followed c.args.path.now) (followed c.invent.new.path) (followed c.know_order.new.path) (followed c.know_order-2.new.path) c.in_ok-name.ensures.leads c.in_ok-know_order.ensures c.in_ok-know_order-2.ensures

pub returns-in_err-name-clause-leads : goal.returns-in_err-name-clause-leads
returns-in_err-name-clause-leads g c =
    let k = named_new_stops (seen g.D.Domain c.args.setting.now) c.args.element (form c.args.left.now) (followed c.args.path.now) c.in_err-name.field-0.0 c.in_err-name.ensures.leads in
    handed c.from_residual.result c.in_err-name.field-0.0 _ _ c.from_residual.ensures k

pub returns-in_err-know_order-clause-leads : goal.returns-in_err-know_order-clause-leads
returns-in_err-know_order-clause-leads g c =
    let k = named_first_stops (seen g.D.Domain c.args.setting.now) c.args.element (form c.args.left.now) (form c.in_ok-name.name) (followed c.args.path.now) (followed c.invent.new.path) c.in_err-know_order.field-0.0 c.in_ok-name.ensures.leads c.in_err-know_order.ensures in
    handed c.from_residual-in_err-know_order.result c.in_err-know_order.field-0.0 _ _ c.from_residual-in_err-know_order.ensures k

pub returns-in_err-know_order-2-clause-leads : goal.returns-in_err-know_order-2-clause-leads
returns-in_err-know_order-2-clause-leads g c =
    let k = named_second_stops (seen g.D.Domain c.args.setting.now) c.args.element (form c.args.left.now) (form c.in_ok-name.name) (followed c.args.path.now) (followed c.invent.new.path) (followed c.know_order.new.path) c.in_err-know_order-2.field-0.0 c.in_ok-name.ensures.leads c.in_ok-know_order.ensures c.in_err-know_order-2.ensures in
    handed c.from_residual-in_err-know_order-2.result c.in_err-know_order-2.field-0.0 _ _ c.from_residual-in_err-know_order-2.ensures k
