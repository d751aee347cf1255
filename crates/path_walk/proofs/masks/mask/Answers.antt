use Rattle.linear.specs.Forms.{form}
use Rattle.words.specs.View.{kind}
use Rattle.facts.proofs.Unmade.{handed}
use Rattle.walk_trees.specs.Operators.{is_mask, masked}
use Rattle.path_steps.specs.View.{followed, setting as seen}
use Rattle.path_walk.proofs.Operating.{as_value, as_value_stops}
use Rattle.path_walk.proofs.masks.mask.Goals as goal

pub returns : goal.returns
returns g c =
    let y = form c.args.right.now in
    as_value (masked (seen g.D.Domain c.args.setting.now) (is_mask c.args.setting.now.is_wide (kind c.args.kind) y) (kind c.args.kind) (form c.args.left.now) y) (kind c.args.kind) (form c.in_ok-form.form) (followed c.args.path.now) (followed c.masked.new.path) c.in_ok-form.ensures

pub returns-in_err-form : goal.returns-in_err-form
returns-in_err-form g c =
    let y = form c.args.right.now in
    let k = as_value_stops (masked (seen g.D.Domain c.args.setting.now) (is_mask c.args.setting.now.is_wide (kind c.args.kind) y) (kind c.args.kind) (form c.args.left.now) y) (kind c.args.kind) (followed c.args.path.now) c.in_err-form.field-0.0 c.in_err-form.ensures in
    handed c.from_residual.result c.in_err-form.field-0.0 _ _ c.from_residual.ensures k
