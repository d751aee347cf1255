use Rattle.std.specs.Prelude.{[], ◌∷◌}
use Rattle.linear.specs.Forms.{form}
use Rattle.facts.specs.Symbols.{minus}
use Rattle.facts.proofs.Unmade.{handed}
use Rattle.path_steps.specs.Joins.{told}
use Rattle.path_steps.specs.View.{followed}
use Rattle.path_steps.proofs.Refusing.{then_step, step_stops}
use Rattle.path_steps.proofs.joins.know_equal.Goals as goal

pub returns : goal.returns
returns g c =
    let x = form c.args.left.now in
    let y = form c.args.right.now in
    then_step (told (minus x y ∷ [])) (told (minus y x ∷ [])) (followed c.args.path.now) (followed c.know_difference.new.path) (followed c.know_difference-2.new.path) c.know_difference-2.result c.in_ok-know_difference.ensures c.know_difference-2.ensures

pub returns-in_err-know_difference : goal.returns-in_err-know_difference
returns-in_err-know_difference g c =
    let x = form c.args.left.now in
    let y = form c.args.right.now in
    let k = step_stops (told (minus x y ∷ [])) (told (minus y x ∷ [])) (followed c.args.path.now) c.in_err-know_difference.field-0.0 c.in_err-know_difference.ensures in
    handed c.from_residual.result c.in_err-know_difference.field-0.0 _ _ c.from_residual.ensures k
