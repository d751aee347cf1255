use Rattle.std.proofs.Common.{refl}
use Rattle.std.specs.Prelude.{true, [], ◌∷◌, ◌++◌}
use Rattle.linear.specs.Forms.{form, forms}
use Rattle.facts.specs.Symbols.{minus}
use Rattle.facts.proofs.Unmade.{handed}
use Rattle.walk_trees.specs.Trees.{OfCongruence, Divided}
use Rattle.path_steps.specs.View.{followed}
use Rattle.path_steps.proofs.Refusing.{goal_steps, goal_stops, unfit_goal}
use Rattle.arrival_claims.proofs.Lines.{unfit_difference}
use Rattle.arrival_claims.proofs.dividing.claim_over.Goals as goal

pub returns : goal.returns
returns g c =
    let f = form c.args.form.now in
    let p = form c.args.product.now in
    let ms = forms c.args.made.items in
    goal_steps OfCongruence true c.args.settled c.args.settled (Divided (ms ++ p ∷ []) (minus f p)) (Divided (forms c.in_ok-made.made.items) (form c.in_ok-over.over)) (followed c.args.path.now) (followed c.claim.new.self) refl (λ i. Divided (c.in_ok-made.ensures i) (c.in_ok-over.ensures i)) c.in_ok-claim.ensures

pub returns-in_err-over : goal.returns-in_err-over
returns-in_err-over g c =
    let f = form c.args.form.now in
    let p = form c.args.product.now in
    let ms = forms c.args.made.items in
    let k = unfit_goal OfCongruence true c.args.settled (Divided (ms ++ p ∷ []) (minus f p)) (followed c.args.path.now) c.in_err-over.field-0.0 (unfit_difference c.in_err-over.field-0.0 _ _ c.in_err-over.ensures) in
    handed c.from_residual.result c.in_err-over.field-0.0 _ _ c.from_residual.ensures k

pub returns-in_err-claim : goal.returns-in_err-claim
returns-in_err-claim g c =
    let f = form c.args.form.now in
    let p = form c.args.product.now in
    let ms = forms c.args.made.items in
    let k = goal_stops OfCongruence true c.args.settled c.args.settled (Divided (ms ++ p ∷ []) (minus f p)) (Divided (forms c.in_ok-made.made.items) (form c.in_ok-over.over)) (followed c.args.path.now) c.in_err-claim.field-0.0 refl (λ i. Divided (c.in_ok-made.ensures i) (c.in_ok-over.ensures i)) c.in_err-claim.ensures in
    handed c.from_residual-in_err-claim.result c.in_err-claim.field-0.0 _ _ c.from_residual-in_err-claim.ensures k
