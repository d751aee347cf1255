use Rattle.std.proofs.Common.{true, false}
use Rattle.std.specs.Prelude.{cond}
use Rattle.linear.specs.Forms.{form}
use Rattle.words.specs.View.{kind}
use Rattle.walk_trees.specs.Bits.{meet}
use Rattle.path_steps.specs.View.{followed, setting as seen}
use Rattle.path_walk.specs.OperatorSteps.{masked_here}
use Rattle.path_walk.proofs.Operating.{chosen}
use Rattle.path_walk.proofs.masks.met_or_masked.Goals as goal

pub returns-then-setting : goal.returns-then-setting
returns-then-setting g c =
    let s = seen g.D.Domain c.args.setting.now in
    let k = kind c.args.kind in
    let x = form c.args.left.now in
    let y = form c.args.right.now in
    chosen (λ b st go. cond b (meet s k x y st go) (masked_here s k x y st go)) (λ st. s.is_wide) true (followed c.args.path.now) (followed c.meet.new.path) form c.meet.result c.if-setting.true c.meet.ensures

pub returns : goal.returns
returns g c =
    let s = seen g.D.Domain c.args.setting.now in
    let k = kind c.args.kind in
    let x = form c.args.left.now in
    let y = form c.args.right.now in
    chosen (λ b st go. cond b (meet s k x y st go) (masked_here s k x y st go)) (λ st. s.is_wide) false (followed c.args.path.now) (followed c.masked_by.new.path) form c.masked_by.result c.if-setting.false c.masked_by.ensures
