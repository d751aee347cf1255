use Rattle.words.specs.View.{kind}
use Rattle.linear.specs.Forms.{form}
use Rattle.facts.proofs.Unmade.{handed}
use Rattle.path_steps.specs.View.{followed, value, setting as seen}
use Rattle.path_steps.proofs.Exactly.{ranged_product}
use Rattle.path_steps.proofs.exact.ranged_product.Goals as goal

pub returns : goal.returns
returns g c = ranged_product (seen g.D.Domain c.args.setting.now) (kind c.args.kind) (form c.args.left.now) (form c.args.right.now) (form c.in_ok-form.form) (followed c.args.path.now) (followed c.product.new.path) (followed c.ranged.new.path) value c.ranged.result c.in_ok-form.ensures c.ranged.ensures

pub returns-in_err-form : goal.returns-in_err-form
returns-in_err-form g c = handed c.from_residual.result c.in_err-form.field-0.0 _ _ c.from_residual.ensures (c.in_err-form.ensures (kind c.args.kind))
