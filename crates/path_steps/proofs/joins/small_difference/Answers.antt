use Rattle.linear.specs.Forms.{form}
use Rattle.facts.specs.Symbols.{minus}
use Rattle.facts.specs.View.{error_of_form}
use Rattle.facts.proofs.Unmade.{memory_of, handed}
use Rattle.path_steps.proofs.Joining.{small-difference}
use Rattle.path_steps.proofs.joins.small_difference.Goals as goal

pub returns-in_err-form : goal.returns-in_err-form
returns-in_err-form c =
    let l = small-difference (form c.args.left.now) (form c.args.right.now) c.requires.left c.requires.right in
    let k = memory_of c.sub.result c.in_err-form.field-0.0 (minus (form c.args.left.now) (form c.args.right.now)) c.in_err-form.was c.sub.ensures.too_large l in
    handed c.from_residual.result (error_of_form c.in_err-form.field-0.0) _ _ c.from_residual.ensures k
