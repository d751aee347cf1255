use Rattle.std.proofs.Common.{true, false}
use Rattle.std.specs.Prelude.{cond}
use Rattle.linear.specs.Forms.{form}
use Rattle.words.specs.View.{kind}
use Rattle.walk_trees.specs.Walks.{unknown}
use Rattle.path_steps.specs.View.{followed, setting as seen, value}
use Rattle.path_walk.specs.OperatorSteps.{differing_value}
use Rattle.path_walk.proofs.Operating.{chosen}
use Rattle.path_walk.proofs.bits.other_bits.Goals as goal

pub returns-then-setting : goal.returns-then-setting
returns-then-setting g c =
    let s = seen g.D.Domain c.args.setting.now in
    let k = kind c.args.kind in
    let x = form c.args.left.now in
    let y = form c.args.right.now in
    chosen (λ b st go. cond b (differing_value s k x y st go) (unknown s k st go)) (λ st. s.is_wide) true (followed c.args.path.now) (followed c.differing_value.new.path) value c.differing_value.result c.if-setting.true c.differing_value.ensures

pub returns : goal.returns
returns g c =
    let s = seen g.D.Domain c.args.setting.now in
    let k = kind c.args.kind in
    let x = form c.args.left.now in
    let y = form c.args.right.now in
    chosen (λ b st go. cond b (differing_value s k x y st go) (unknown s k st go)) (λ st. s.is_wide) false (followed c.args.path.now) (followed c.unknown.new.path) value c.unknown.result c.if-setting.false c.unknown.ensures
