use Rattle.linear.specs.Forms.{form}
use Rattle.linear.specs.Exact.{sum}
use Rattle.facts.specs.View.{error_of_form}
use Rattle.facts.proofs.Unmade.{memory_of, handed}
use Rattle.path_steps.proofs.Joining.{small-sum}
use Rattle.path_steps.proofs.joins.small_sum.Goals as goal

pub returns-in_err-form : goal.returns-in_err-form
returns-in_err-form c =
    let l = small-sum (form c.args.left.now) (form c.args.right.now) c.requires.left c.requires.right in
    let k = memory_of c.add.result c.in_err-form.field-0.0 (sum (form c.args.left.now) (form c.args.right.now)) c.in_err-form.was c.add.ensures.too_large l in
    handed c.from_residual.result (error_of_form c.in_err-form.field-0.0) _ _ c.from_residual.ensures k
