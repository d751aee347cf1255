use Rattle.std.specs.Prelude.{pos, negsuc}
use Rattle.linear.specs.Forms.{form}
use Rattle.facts.specs.Symbols.{constant, minus}
use Rattle.facts.proofs.Unmade.{handed}
use Rattle.path_steps.proofs.Refusing.{positive_unfit, negative_unfit}
use Rattle.path_steps.proofs.divisors.divisor_goal.Goals as goal

pub returns-in_err-positive-clause-goal : goal.returns-in_err-positive-clause-goal
returns-in_err-positive-clause-goal c =
    let k = positive_unfit c.in_err-positive.field-0.0 (minus (form c.args.divisor.now) (constant (pos 1))) (minus (constant (negsuc 0)) (form c.args.divisor.now)) c.in_err-positive.ensures in
    handed c.from_residual.result c.in_err-positive.field-0.0 _ _ c.from_residual.ensures k

pub returns-in_err-negative-clause-goal : goal.returns-in_err-negative-clause-goal
returns-in_err-negative-clause-goal c =
    let k = negative_unfit c.in_err-negative.field-0.0 (minus (form c.args.divisor.now) (constant (pos 1))) (minus (constant (negsuc 0)) (form c.args.divisor.now)) c.in_err-negative.ensures in
    handed c.from_residual-in_err-negative.result c.in_err-negative.field-0.0 _ _ c.from_residual-in_err-negative.ensures k
