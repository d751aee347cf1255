use Rattle.std.specs.Prelude.{true, []}
use Rattle.std.proofs.Common.{refl, ap}
use Rattle.linear.specs.Forms.{form, forms}
use Rattle.facts.specs.Symbols.{minus}
use Rattle.facts.proofs.Unmade.{handed}
use Rattle.walk_trees.specs.Trees.{OfCongruence, Divided}
use Rattle.path_steps.specs.View.{followed}
use Rattle.path_steps.proofs.Refusing.{goal_steps, goal_stops, unfit_goal}
use Rattle.arrival_claims.proofs.Lines.{unfit_difference}
use Rattle.arrival_claims.proofs.dividing.claim_under.Goals as goal

pub returns : goal.returns
returns g c =
    let f = form c.args.form.now in
    let p = form c.args.product.now in
    goal_steps OfCongruence true c.args.settled c.args.settled (Divided [] (minus p f)) (Divided (forms c.new-made.result.items) (form c.in_ok-under.under)) (followed c.args.path.now) (followed c.claim.new.self) refl (λ i. Divided (ap forms c.new-made.ensures.items i) (c.in_ok-under.ensures i)) c.in_ok-claim.ensures

pub returns-in_err-under : goal.returns-in_err-under
returns-in_err-under g c =
    let f = form c.args.form.now in
    let p = form c.args.product.now in
    let k = unfit_goal OfCongruence true c.args.settled (Divided [] (minus p f)) (followed c.args.path.now) c.in_err-under.field-0.0 (unfit_difference c.in_err-under.field-0.0 _ _ c.in_err-under.ensures) in
    handed c.from_residual.result c.in_err-under.field-0.0 _ _ c.from_residual.ensures k

pub returns-in_err-claim : goal.returns-in_err-claim
returns-in_err-claim g c =
    let f = form c.args.form.now in
    let p = form c.args.product.now in
    let k = goal_stops OfCongruence true c.args.settled c.args.settled (Divided [] (minus p f)) (Divided (forms c.new-made.result.items) (form c.in_ok-under.under)) (followed c.args.path.now) c.in_err-claim.field-0.0 refl (λ i. Divided (ap forms c.new-made.ensures.items i) (c.in_ok-under.ensures i)) c.in_err-claim.ensures in
    handed c.from_residual-in_err-claim.result c.in_err-claim.field-0.0 _ _ c.from_residual-in_err-claim.ensures k
