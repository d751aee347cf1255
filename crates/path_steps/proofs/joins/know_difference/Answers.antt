use Rattle.linear.specs.Forms.{form}
use Rattle.facts.specs.Symbols.{minus}
use Rattle.facts.proofs.Unmade.{handed}
use Rattle.path_steps.specs.View.{followed}
use Rattle.path_steps.proofs.Joining.{one_told, one_unfit}
use Rattle.path_steps.proofs.joins.know_difference.Goals as goal

pub returns : goal.returns
returns g c = one_told (minus (form c.args.left.now) (form c.args.right.now)) (form c.in_ok-fact.fact) (followed c.args.path.now) (followed c.know.new.self) c.in_ok-fact.ensures c.in_ok-know.ensures

pub returns-in_err-fact : goal.returns-in_err-fact
returns-in_err-fact g c =
    let k = one_unfit (minus (form c.args.left.now) (form c.args.right.now)) (followed c.args.path.now) c.in_err-fact.field-0.0 c.in_err-fact.ensures in
    handed c.from_residual.result c.in_err-fact.field-0.0 _ _ c.from_residual.ensures k
