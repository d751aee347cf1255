use Rattle.std.specs.Prelude.{true, false, negsuc}
use Rattle.std.proofs.Common.{refl, ap}
use Rattle.linear.specs.Forms.{form, forms}
use Rattle.facts.specs.Symbols.{constant}
use Rattle.facts.proofs.Unmade.{handed}
use Rattle.walk_trees.specs.Trees.{OfCongruence, Divided}
use Rattle.path_steps.specs.View.{followed}
use Rattle.path_steps.proofs.Refusing.{goal_steps, goal_stops}
use Rattle.arrival_claims.proofs.multiplying.claim_none.Goals as goal

pub returns : goal.returns
returns g c =
    let ms = forms c.args.told.made.items in
    goal_steps OfCongruence true false false (Divided ms (constant (negsuc 0))) (Divided ms (form c.constant-form.result)) (followed c.args.path.now) (followed c.claim.new.self) refl (ap (Divided ms) c.constant-form.ensures) c.in_ok-claim.ensures

pub returns-in_err-claim : goal.returns-in_err-claim
returns-in_err-claim g c =
    let ms = forms c.args.told.made.items in
    let k = goal_stops OfCongruence true false false (Divided ms (constant (negsuc 0))) (Divided ms (form c.constant-form.result)) (followed c.args.path.now) c.in_err-claim.field-0.0 refl (ap (Divided ms) c.constant-form.ensures) c.in_err-claim.ensures in
    handed c.from_residual.result c.in_err-claim.field-0.0 _ _ c.from_residual.ensures k
