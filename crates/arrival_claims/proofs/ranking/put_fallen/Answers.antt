use Rattle.std.proofs.Common.{[], ◌∷◌, ◌++◌, subst, ◌∙◌}
use Rattle.linear.specs.Forms.{form, forms}
use Rattle.facts.proofs.Unmade.{handed}
use Rattle.path_steps.specs.View.{followed}
use Rattle.arrival_claims.specs.View.{placed}
use Rattle.facts.specs.Refusals.{IsUnfit}
use Rattle.walk_trees.specs.Walks.{rank_form}
use Rattle.obligations.specs.Notes.{fallen, fallen_by}
use Rattle.arrival_claims.proofs.Rankings.{rank_as, rank_unfit, way_unfit}
use Rattle.arrival_claims.proofs.ranking.put_fallen.Goals as goal

pub returns : goal.returns
unfolding placed
returns g c =
    let w = placed g.D.Domain c.args.placing.now in
    let l = followed c.args.path.now in
    let y = form c.args.told.form in
    let ms = forms c.args.told.made.items in
    let d = c.in_ok-way.ensures ∙ (λ i. fallen_by (c.progress_of-progress.ensures i) (c.in_ok-before.ensures i) y) in
    let e = c.in_ok-form.ensures ∙ (λ i. fallen (c.progress_of-progress.ensures i) (c.in_ok-before.ensures i) y) in
    rank_as w l (followed c.claim_told.new.path) c.claim_told.result (forms c.in_ok-made.made.items) _ (form c.in_ok-form.form) _ (c.in_ok-made.ensures ∙ (λ i. ms ++ d i ∷ [])) e c.claim_told.ensures

pub returns-in_err-way : goal.returns-in_err-way
returns-in_err-way g c =
    let w = placed g.D.Domain c.args.placing.now in
    let l = followed c.args.path.now in
    let y = form c.args.told.form in
    let b = (w.notes.ranking c.args.number).bound in
    let x = rank_form l.state.ranks c.args.number in
    let k = way_unfit w l (forms c.args.told.made.items) (fallen_by b x y) (fallen b x y) c.in_err-way.field-0.0 (subst (IsUnfit c.in_err-way.field-0.0) (λ i. fallen_by (c.progress_of-progress.ensures i) (c.in_ok-before.ensures i) y) c.in_err-way.ensures) in
    handed c.from_residual-in_err-way.result c.in_err-way.field-0.0 _ _ c.from_residual-in_err-way.ensures k

pub returns-in_err-form : goal.returns-in_err-form
returns-in_err-form g c =
    let w = placed g.D.Domain c.args.placing.now in
    let l = followed c.args.path.now in
    let y = form c.args.told.form in
    let b = (w.notes.ranking c.args.number).bound in
    let x = rank_form l.state.ranks c.args.number in
    let k = rank_unfit w l (forms c.args.told.made.items ++ fallen_by b x y ∷ []) (fallen b x y) c.in_err-form.field-0.0 (subst (IsUnfit c.in_err-form.field-0.0) (λ i. fallen (c.progress_of-progress.ensures i) (c.in_ok-before.ensures i) y) c.in_err-form.ensures) in
    handed c.from_residual-in_err-form.result c.in_err-form.field-0.0 _ _ c.from_residual-in_err-form.ensures k
