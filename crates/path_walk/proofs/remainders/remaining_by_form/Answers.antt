use Rattle.linear.specs.Forms.{form}
use Rattle.words.specs.View.{kind}
use Rattle.facts.proofs.Unmade.{handed}
use Rattle.walk_trees.specs.Operators.{share}
use Rattle.walk_trees.specs.SharedQuotients.{left_or_new}
use Rattle.path_steps.specs.View.{followed, maybe_shared, setting as seen}
use Rattle.path_walk.proofs.Operating.{turned, turn_stops}
use Rattle.path_walk.proofs.remainders.remaining_by_form.Goals as goal

pub returns : goal.returns
returns g c =
    let s = seen g.D.Domain c.args.setting.now in
    let x = form c.args.dividend.now in
    let y = form c.args.divisor.now in
    turned (share s (kind c.args.kind) x y) (λ q. left_or_new s q x y) (maybe_shared c.in_ok-shared.shared) (followed c.args.path.now) (followed c.share.new.path) (followed c.left_or_new.new.path) form c.left_or_new.result c.in_ok-shared.ensures c.left_or_new.ensures

pub returns-in_err-shared : goal.returns-in_err-shared
returns-in_err-shared g c =
    let s = seen g.D.Domain c.args.setting.now in
    let x = form c.args.dividend.now in
    let y = form c.args.divisor.now in
    let e = c.in_err-shared.field-0.0 in
    handed c.from_residual.result e _ _ c.from_residual.ensures (turn_stops (share s (kind c.args.kind) x y) (λ q. left_or_new s q x y) (followed c.args.path.now) e c.in_err-shared.ensures)
