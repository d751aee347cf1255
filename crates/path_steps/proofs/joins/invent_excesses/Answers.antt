use Rattle.linear.specs.Forms.{form}
use Rattle.facts.proofs.Unmade.{handed}
use Rattle.path_steps.specs.View.{followed, setting as seen}
use Rattle.path_steps.proofs.Joining.{excesses_lead, first_excess_stops, second_excess_stops, excess_product_stops}
use Rattle.path_steps.proofs.joins.invent_excesses.Goals as goal

pub returns-clause-leads : goal.returns-clause-leads
returns-clause-leads g c = excesses_lead (seen g.D.Domain c.args.setting.now) (form c.args.more.now) (form c.args.less.now) c.excess-above.result c.excess-below.result (form c.in_ok-first.first) (form c.in_ok-second.second) (followed c.args.path.now) (followed c.invent.new.path) (followed c.invent-2.new.path) (followed c.know_product.new.path) c.excess-above.ensures c.in_ok-first.ensures.leads c.excess-below.ensures c.in_ok-second.ensures.leads c.in_ok-know_product.ensures

pub returns-in_err-first-clause-leads : goal.returns-in_err-first-clause-leads
returns-in_err-first-clause-leads g c =
    let l = followed c.args.path.now in
    let k = first_excess_stops (seen g.D.Domain c.args.setting.now) (form c.args.more.now) (form c.args.less.now) c.excess-above.result c.excess-above.result (form c.args.more.now) (form c.args.less.now) l l l c.in_err-first.field-0.0 c.excess-above.ensures c.in_err-first.ensures.leads in
    handed c.from_residual.result c.in_err-first.field-0.0 _ _ c.from_residual.ensures k

pub returns-in_err-second-clause-leads : goal.returns-in_err-second-clause-leads
returns-in_err-second-clause-leads g c =
    let m = followed c.invent.new.path in
    let k = second_excess_stops (seen g.D.Domain c.args.setting.now) (form c.args.more.now) (form c.args.less.now) c.excess-above.result c.excess-below.result (form c.in_ok-first.first) (form c.args.less.now) (followed c.args.path.now) m m c.in_err-second.field-0.0 c.excess-above.ensures c.in_ok-first.ensures.leads c.excess-below.ensures c.in_err-second.ensures.leads in
    handed c.from_residual-in_err-second.result c.in_err-second.field-0.0 _ _ c.from_residual-in_err-second.ensures k

pub returns-in_err-know_product-clause-leads : goal.returns-in_err-know_product-clause-leads
returns-in_err-know_product-clause-leads g c =
    let k = excess_product_stops (seen g.D.Domain c.args.setting.now) (form c.args.more.now) (form c.args.less.now) c.excess-above.result c.excess-below.result (form c.in_ok-first.first) (form c.in_ok-second.second) (followed c.args.path.now) (followed c.invent.new.path) (followed c.invent-2.new.path) c.in_err-know_product.field-0.0 c.excess-above.ensures c.in_ok-first.ensures.leads c.excess-below.ensures c.in_ok-second.ensures.leads c.in_err-know_product.ensures in
    handed c.from_residual-in_err-know_product.result c.in_err-know_product.field-0.0 _ _ c.from_residual-in_err-know_product.ensures k
