use Rattle.std.specs.Prelude.{true}
use Rattle.std.proofs.Common.{refl}
use Rattle.linear.specs.Forms.{form, forms}
use Rattle.facts.proofs.Unmade.{handed}
use Rattle.walk_trees.specs.Trees.{Replaced}
use Rattle.walk_trees.specs.Walks.{settles}
use Rattle.path_steps.specs.View.{followed, sort, setting as seen}
use Rattle.path_steps.proofs.Refusing.{goal_steps, goal_stops}
use Rattle.arrival_claims.proofs.claiming.claim_told.Goals as goal

pub returns : goal.returns
returns g c =
    let b = settles (seen g.D.Domain c.args.setting.now) (followed c.args.path.now).state (form c.args.form) in
    let a = Replaced (forms c.args.made.items) (form c.args.form) in
    goal_steps (sort c.args.sort) true b c.settles-settled.result a a (followed c.args.path.now) (followed c.claim.new.self) c.settles-settled.ensures refl c.in_ok-claim.ensures

pub returns-in_err-claim : goal.returns-in_err-claim
returns-in_err-claim g c =
    let b = settles (seen g.D.Domain c.args.setting.now) (followed c.args.path.now).state (form c.args.form) in
    let a = Replaced (forms c.args.made.items) (form c.args.form) in
    let k = goal_stops (sort c.args.sort) true b c.settles-settled.result a a (followed c.args.path.now) c.in_err-claim.field-0.0 c.settles-settled.ensures refl c.in_err-claim.ensures in
    handed c.from_residual.result c.in_err-claim.field-0.0 _ _ c.from_residual.ensures k
