use Rattle.linear.specs.Forms.{form}
use Rattle.words.specs.View.{kind}
use Rattle.facts.proofs.Unmade.{handed}
use Rattle.path_steps.specs.View.{followed, setting as seen}
use Rattle.path_steps.proofs.Leading.{unknown_leads}
use Rattle.path_steps.proofs.Refusing.{unknown_stops}
use Rattle.path_steps.proofs.ranges.unknown.Goals as goal

pub returns : goal.returns
returns g c = unknown_leads (seen g.D.Domain c.args.setting.now) (kind c.args.kind) c.any_of.result (form c.in_ok-form.form) (followed c.args.path.now) (followed c.invent.new.path) c.any_of.ensures c.in_ok-form.ensures.leads

pub returns-in_err-form : goal.returns-in_err-form
returns-in_err-form g c =
    let k = unknown_stops (seen g.D.Domain c.args.setting.now) (kind c.args.kind) c.any_of.result (followed c.args.path.now) c.in_err-form.field-0.0 c.any_of.ensures c.in_err-form.ensures.leads in
    handed c.from_residual.result c.in_err-form.field-0.0 _ _ c.from_residual.ensures k
