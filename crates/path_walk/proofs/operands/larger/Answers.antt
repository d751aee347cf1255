use Rattle.std.proofs.Common.{true, false}
use Rattle.linear.specs.Forms.{form}
use Rattle.facts.proofs.Unmade.{matched_some}
use Rattle.path_steps.specs.View.{followed, value, setting as seen}
use Rattle.path_steps.proofs.Testing.{matched_none}
use Rattle.path_walk.proofs.AtSites.{ArePicked, joined_picks, joined_pick_stops, parted_picks}
use Rattle.path_walk.proofs.operands.larger.Goals as goal

pub returns : goal.returns
returns g c = parted_picks (seen g.D.Domain c.args.setting.now) true (value c.args.left) (value c.args.right) (value c.args.right) (value c.args.left) (followed c.args.path.now) (followed c.larger_split.new.path) value c.larger_split.result (matched_none _ _ _ c.in_default.is c.in_ok-apart.ensures) c.larger_split.ensures

pub returns-in-Some : goal.returns-in-Some
returns-in-Some g c =
    let d = matched_some _ c.in-Some.apart _ (λ d. ArePicked (seen g.D.Domain c.args.setting.now) (value c.args.left) (value c.args.right) (followed c.args.path.now).state (form d.more) (form d.less)) c.in-Some.is c.in_ok-apart.ensures in
    joined_picks (seen g.D.Domain c.args.setting.now) true (value c.args.left) (value c.args.right) (value c.args.right) (value c.args.left) (followed c.args.path.now) (followed c.pick_joined.new.path) (value c.in_ok-value.value) d.0 c.in_ok-value.ensures

pub returns-in_err-value : goal.returns-in_err-value
returns-in_err-value g c =
    let d = matched_some _ c.in-Some.apart _ (λ d. ArePicked (seen g.D.Domain c.args.setting.now) (value c.args.left) (value c.args.right) (followed c.args.path.now).state (form d.more) (form d.less)) c.in-Some.is c.in_ok-apart.ensures in
    joined_pick_stops (seen g.D.Domain c.args.setting.now) true (value c.args.left) (value c.args.right) (value c.args.right) (value c.args.left) (followed c.args.path.now) (followed c.pick_joined.new.path) value c.from_residual-in_err-value.result c.in_err-value.field-0.0 d.0 c.from_residual-in_err-value.ensures c.in_err-value.ensures
