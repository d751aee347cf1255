use Rattle.linear.specs.Forms.{form}
use Rattle.facts.proofs.Unmade.{matched_some}
use Rattle.path_steps.specs.View.{followed, setting as seen}
use Rattle.path_steps.proofs.Testing.{AreDifferences, apart_joined, apart_below, matched_none}
use Rattle.path_steps.proofs.tests.split_apart.Goals as goal

pub returns-in-None : goal.returns-in-None
returns-in-None g c = apart_below (seen g.D.Domain c.args.setting.now) (form c.args.left.now) (form c.args.right.now) (followed c.args.path.now) (followed c.split_below.new.path) c.split_below.result (matched_none _ _ _ c.in-None.is c.in_ok-differences.ensures) c.split_below.ensures

pub returns-in-Some : goal.returns-in-Some
returns-in-Some g c =
    let d = matched_some _ c.in-Some.differences _ (λ x. AreDifferences (seen g.D.Domain c.args.setting.now) (form c.args.left.now) (form c.args.right.now) (followed c.args.path.now).state (form x.more) (form x.less)) c.in-Some.is c.in_ok-differences.ensures in
    apart_joined (seen g.D.Domain c.args.setting.now) (form c.args.left.now) (form c.args.right.now) (form c.in-Some.differences.more) (form c.in-Some.differences.less) (followed c.args.path.now) (followed c.one_way.new.path) c.one_way.result d.0 d.1 d.2 c.one_way.ensures
