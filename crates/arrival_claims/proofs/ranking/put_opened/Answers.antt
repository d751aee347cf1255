use Rattle.std.proofs.Common.{refl, ap, subst, ◌∙◌}
use Rattle.linear.specs.Forms.{form, forms}
use Rattle.facts.proofs.Unmade.{handed}
use Rattle.path_steps.specs.View.{followed}
use Rattle.arrival_claims.specs.View.{placed}
use Rattle.facts.specs.Refusals.{IsUnfit}
use Rattle.obligations.specs.Notes.{opens}
use Rattle.arrival_claims.proofs.Rankings.{rank_as, rank_unfit}
use Rattle.arrival_claims.proofs.ranking.put_opened.Goals as goal

pub returns : goal.returns
unfolding placed
returns g c =
    let w = placed g.D.Domain c.args.placing.now in
    let l = followed c.args.path.now in
    let y = form c.args.told.form in
    let ms = forms c.args.told.made.items in
    rank_as w l (followed c.claim_told.new.path) c.claim_told.result ms ms (form c.in_ok-form.form) _ refl (c.in_ok-form.ensures ∙ ap (λ b. opens b y) c.progress_of-progress.ensures) c.claim_told.ensures

pub returns-in_err-form : goal.returns-in_err-form
returns-in_err-form g c =
    let w = placed g.D.Domain c.args.placing.now in
    let l = followed c.args.path.now in
    let y = form c.args.told.form in
    let k = rank_unfit w l (forms c.args.told.made.items) _ c.in_err-form.field-0.0 (subst (IsUnfit c.in_err-form.field-0.0) (ap (λ b. opens b y) c.progress_of-progress.ensures) c.in_err-form.ensures) in
    handed c.from_residual.result c.in_err-form.field-0.0 _ _ c.from_residual.ensures k
