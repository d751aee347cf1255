use Rattle.words.specs.View.{kind}
use Rattle.linear.specs.Forms.{form}
use Rattle.facts.proofs.Unmade.{handed}
use Rattle.walk_trees.specs.Operators as operators
use Rattle.path_steps.specs.View.{followed, value, setting as seen}
use Rattle.path_steps.proofs.Exactly.{ranged_as, ranged_unfit}
use Rattle.path_steps.proofs.exact.ranged_complement.Goals as goal

pub returns : goal.returns
returns g c = ranged_as (seen g.D.Domain c.args.setting.now) (kind c.args.kind) (operators.complement (kind c.args.kind) (form c.args.of.now)) (form c.in_ok-form.form) (followed c.args.path.now) (followed c.ranged.new.path) value c.ranged.result c.in_ok-form.ensures c.ranged.ensures

pub returns-in_err-form : goal.returns-in_err-form
returns-in_err-form g c =
    let k = ranged_unfit (seen g.D.Domain c.args.setting.now) (kind c.args.kind) (operators.complement (kind c.args.kind) (form c.args.of.now)) (followed c.args.path.now) c.in_err-form.field-0.0 c.in_err-form.ensures in
    handed c.from_residual.result c.in_err-form.field-0.0 _ _ c.from_residual.ensures k
