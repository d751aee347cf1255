use Rattle.linear.specs.Forms.{form, forms}
use Rattle.facts.proofs.Unmade.{handed}
use Rattle.path_steps.specs.View.{followed}
use Rattle.path_steps.proofs.Refusing.{then_step, step_stops}
use Rattle.arrival_claims.specs.Claims.{claim_over, claim_under}
use Rattle.arrival_claims.proofs.dividing.claim_divided.Goals as goal

pub returns : goal.returns
returns g c = then_step (claim_over c.args.settled (forms c.args.told.made.items) (form c.args.told.form) (form c.args.product.now)) (claim_under c.args.settled (form c.args.told.form) (form c.args.product.now)) (followed c.args.path.now) (followed c.claim_over.new.path) (followed c.claim_under.new.path) c.claim_under.result c.in_ok-claim_over.ensures c.claim_under.ensures

pub returns-in_err-claim_over : goal.returns-in_err-claim_over
returns-in_err-claim_over g c =
    let k = step_stops (claim_over c.args.settled (forms c.args.told.made.items) (form c.args.told.form) (form c.args.product.now)) (claim_under c.args.settled (form c.args.told.form) (form c.args.product.now)) (followed c.args.path.now) c.in_err-claim_over.field-0.0 c.in_err-claim_over.ensures in
    handed c.from_residual.result c.in_err-claim_over.field-0.0 _ _ c.from_residual.ensures k
