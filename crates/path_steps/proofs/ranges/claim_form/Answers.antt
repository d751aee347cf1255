use Rattle.linear.specs.Forms.{form}
use Rattle.path_steps.specs.View.{followed, sort, setting as seen}
use Rattle.path_steps.proofs.Refusing.{claim_stops}
use Rattle.facts.proofs.Unmade.{handed}
use Rattle.path_steps.proofs.Leading.{claim_steps}
use Rattle.path_steps.proofs.ranges.claim_form.Goals as goal

pub returns : goal.returns
returns g c = claim_steps (seen g.D.Domain c.args.setting.now) (sort c.args.sort) c.args.needed c.settles-settled.result (form c.args.form) (followed c.args.path.now) (followed c.claim.new.self) c.settles-settled.ensures c.in_ok-claim.ensures

pub returns-in_err-claim : goal.returns-in_err-claim
returns-in_err-claim g c =
    let k = claim_stops (seen g.D.Domain c.args.setting.now) (sort c.args.sort) c.args.needed c.settles-settled.result (form c.args.form) (followed c.args.path.now) c.in_err-claim.field-0.0 c.settles-settled.ensures c.in_err-claim.ensures in
    handed c.from_residual.result c.in_err-claim.field-0.0 _ _ c.from_residual.ensures k
