use Rattle.std.specs.Prelude.{negsuc}
use Rattle.linear.specs.Forms.{form}
use Rattle.facts.specs.Symbols.{constant, minus}
use Rattle.facts.proofs.Unmade.{handed}
use Rattle.path_steps.proofs.Refusing.{negative_unfit}
use Rattle.path_steps.proofs.divisors.quotient_goal.Goals as goal

pub returns-in_err-negative : goal.returns-in_err-negative
returns-in_err-negative c =
    let k = negative_unfit c.in_err-negative.field-0.0 (form c.args.divisor.now) (minus (form c.args.dividend.now) (constant (negsuc 2147483646))) c.in_err-negative.ensures in
    handed c.from_residual-in_err-negative.result c.in_err-negative.field-0.0 _ _ c.from_residual-in_err-negative.ensures k
