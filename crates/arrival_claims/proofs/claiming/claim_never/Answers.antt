use Rattle.std.specs.Prelude.{true, false, negsuc}
use Rattle.std.proofs.Common.{refl, ap}
use Rattle.linear.specs.Forms.{form}
use Rattle.facts.specs.Symbols.{constant}
use Rattle.facts.proofs.Unmade.{handed}
use Rattle.walk_trees.specs.Trees.{OfFact, AtLeastZero}
use Rattle.path_steps.specs.View.{followed}
use Rattle.path_steps.proofs.Refusing.{goal_steps, goal_stops}
use Rattle.arrival_claims.proofs.claiming.claim_never.Goals as goal

pub returns : goal.returns
returns g c = goal_steps OfFact true false false (AtLeastZero (constant (negsuc 0))) (AtLeastZero (form c.constant-form.result)) (followed c.args.path.now) (followed c.claim.new.self) refl (ap AtLeastZero c.constant-form.ensures) c.in_ok-claim.ensures

pub returns-in_err-claim : goal.returns-in_err-claim
returns-in_err-claim g c =
    let k = goal_stops OfFact true false false (AtLeastZero (constant (negsuc 0))) (AtLeastZero (form c.constant-form.result)) (followed c.args.path.now) c.in_err-claim.field-0.0 refl (ap AtLeastZero c.constant-form.ensures) c.in_err-claim.ensures in
    handed c.from_residual.result c.in_err-claim.field-0.0 _ _ c.from_residual.ensures k
