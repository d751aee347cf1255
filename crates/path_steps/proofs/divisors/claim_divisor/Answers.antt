use Rattle.linear.specs.Forms.{form}
use Rattle.words.specs.View.{kind}
use Rattle.facts.proofs.Unmade.{handed}
use Rattle.walk_trees.specs.Operators as operators
use Rattle.walk_trees.specs.Operators.{lacks, quotient_goal}
use Rattle.path_steps.specs.View.{followed, setting as seen}
use Rattle.path_steps.proofs.Refusing.{then_step, step_stops}
use Rattle.path_steps.specs.Divisors.{claim_nonzero}
use Rattle.path_steps.proofs.divisors.claim_divisor.Goals as goal

pub returns-clause-steps : goal.returns-clause-steps
returns-clause-steps g c = then_step (claim_nonzero (seen g.D.Domain c.args.setting.now) (form c.args.divisor.now)) (operators.claim_quotient (seen g.D.Domain c.args.setting.now) (kind c.args.kind) (form c.args.dividend.now) (form c.args.divisor.now)) (followed c.args.path.now) (followed c.claim_nonzero.new.path) (followed c.claim_quotient.new.path) c.claim_quotient.result c.in_ok-claim_nonzero.ensures.steps c.claim_quotient.ensures

pub returns-in_err-claim_nonzero-clause-steps : goal.returns-in_err-claim_nonzero-clause-steps
returns-in_err-claim_nonzero-clause-steps g c =
    let k = step_stops (claim_nonzero (seen g.D.Domain c.args.setting.now) (form c.args.divisor.now)) (operators.claim_quotient (seen g.D.Domain c.args.setting.now) (kind c.args.kind) (form c.args.dividend.now) (form c.args.divisor.now)) (followed c.args.path.now) c.in_err-claim_nonzero.field-0.0 c.in_err-claim_nonzero.ensures.steps in
    handed c.from_residual.result c.in_err-claim_nonzero.field-0.0 _ _ c.from_residual.ensures k
