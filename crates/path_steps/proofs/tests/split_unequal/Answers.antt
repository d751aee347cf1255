use Rattle.linear.specs.Forms.{form}
use Rattle.facts.specs.Symbols.{minus}
use Rattle.facts.proofs.Unmade.{matched_some}
use Rattle.walk_trees.specs.Tests.{below}
use Rattle.path_steps.specs.View.{followed, setting as seen}
use Rattle.path_steps.proofs.Testing.{AreDifferences, joined_ways, parted_ways, matched_none}
use Rattle.path_steps.proofs.tests.split_unequal.Goals as goal

pub returns-in-Some : goal.returns-in-Some
returns-in-Some g c =
    let x = form c.args.left.now in
    let y = form c.args.right.now in
    let d = matched_some _ c.in-Some.differences _ (λ x. AreDifferences (seen g.D.Domain c.args.setting.now) (form c.args.left.now) (form c.args.right.now) (followed c.args.path.now).state (form x.more) (form x.less)) c.in-Some.is c.in_ok-differences.ensures in
    joined_ways (seen g.D.Domain c.args.setting.now) (minus x y) (minus y x) (below x y) (below y x) (form c.in-Some.differences.more) (form c.in-Some.differences.less) _ (followed c.args.path.now) (followed c.split_from_zero.new.path) c.split_from_zero.result d.0 d.1 d.2 c.split_from_zero.ensures

pub returns-in-None : goal.returns-in-None
returns-in-None g c =
    let x = form c.args.left.now in
    let y = form c.args.right.now in
    parted_ways (seen g.D.Domain c.args.setting.now) (minus x y) (minus y x) (below x y) (below y x) _ (followed c.args.path.now) (followed c.split_order.new.path) c.split_order.result (matched_none _ _ _ c.in-None.is c.in_ok-differences.ensures) c.split_order.ensures
