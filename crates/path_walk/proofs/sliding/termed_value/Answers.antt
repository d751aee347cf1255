use Rattle.linear.specs.Forms.{form}
use Rattle.words.specs.View.{kind}
use Rattle.facts.proofs.Unmade.{handed}
use Rattle.core_code.specs.View.{direction}
use Rattle.walk_trees.specs.Shifts.{by_term}
use Rattle.path_steps.specs.View.{followed, setting as seen}
use Rattle.path_walk.proofs.Operating.{as_value, as_value_stops}
use Rattle.path_walk.proofs.sliding.termed_value.Goals as goal

pub returns : goal.returns
returns g c = as_value (by_term (seen g.D.Domain c.args.setting.now) (direction c.args.direction) (kind c.args.kind) (form c.args.of.now)) (kind c.args.kind) (form c.in_ok-form.form) (followed c.args.path.now) (followed c.by_term.new.path) c.in_ok-form.ensures

pub returns-in_err-form : goal.returns-in_err-form
returns-in_err-form g c =
    let k = as_value_stops (by_term (seen g.D.Domain c.args.setting.now) (direction c.args.direction) (kind c.args.kind) (form c.args.of.now)) (kind c.args.kind) (followed c.args.path.now) c.in_err-form.field-0.0 c.in_err-form.ensures in
    handed c.from_residual.result c.in_err-form.field-0.0 _ _ c.from_residual.ensures k
