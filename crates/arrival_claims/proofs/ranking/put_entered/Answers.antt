use Rattle.std.proofs.Common.{refl, ap, subst, ◌∙◌}
use Rattle.std.specs.Prelude.{Ok, Err}
use Rattle.linear.specs.Forms.{form, forms}
use Rattle.facts.proofs.Unmade.{handed}
use Rattle.path_steps.specs.View.{followed}
use Rattle.arrival_claims.specs.View.{placed}
use Rattle.facts.specs.Refusals.{IsUnfit}
use Rattle.walk_trees.specs.Trees.{OfRanking}
use Rattle.obligations.specs.Notes.{holds}
use Rattle.arrival_claims.specs.Claims.{claim_told}
use Rattle.arrival_claims.proofs.Rankings.{rank_as, rank_unfit, noted, not_noted}
use Rattle.arrival_claims.proofs.ranking.put_entered.Goals as goal

pub returns : goal.returns
unfolding placed
returns g c =
    let w = placed g.D.Domain c.args.placing.now in
    let l = followed c.args.path.now in
    let y = form c.args.told.form in
    let ms = forms c.args.told.made.items in
    let n = c.args.number in
    let f = holds (w.notes.ranking n).bound y in
    let s = rank_as w l (followed c.claim_told.new.path) (Ok tt) ms ms (form c.in_ok-form.form) f refl (c.in_ok-form.ensures ∙ ap (λ b. holds b y) c.progress_of-progress.ensures) c.in_ok-claim_told.ensures in
    noted (claim_told w.setting OfRanking ms f) n y l (followed c.claim_told.new.path) (followed c.rank.new.self) s c.in_ok-rank.ensures

pub returns-in_err-form : goal.returns-in_err-form
returns-in_err-form g c =
    let w = placed g.D.Domain c.args.placing.now in
    let l = followed c.args.path.now in
    let y = form c.args.told.form in
    let ms = forms c.args.told.made.items in
    let n = c.args.number in
    let f = holds (w.notes.ranking n).bound y in
    let s = rank_unfit w l ms f c.in_err-form.field-0.0 (subst (IsUnfit c.in_err-form.field-0.0) (ap (λ b. holds b y) c.progress_of-progress.ensures) c.in_err-form.ensures) in
    handed c.from_residual.result c.in_err-form.field-0.0 _ _ c.from_residual.ensures (not_noted (claim_told w.setting OfRanking ms f) n y l c.in_err-form.field-0.0 s)

pub returns-in_err-claim_told : goal.returns-in_err-claim_told
unfolding placed
returns-in_err-claim_told g c =
    let w = placed g.D.Domain c.args.placing.now in
    let l = followed c.args.path.now in
    let y = form c.args.told.form in
    let ms = forms c.args.told.made.items in
    let n = c.args.number in
    let f = holds (w.notes.ranking n).bound y in
    let s = rank_as w l (followed c.claim_told.new.path) (Err c.in_err-claim_told.field-0.0) ms ms (form c.in_ok-form.form) f refl (c.in_ok-form.ensures ∙ ap (λ b. holds b y) c.progress_of-progress.ensures) c.in_err-claim_told.ensures in
    handed c.from_residual-in_err-claim_told.result c.in_err-claim_told.field-0.0 _ _ c.from_residual-in_err-claim_told.ensures (not_noted (claim_told w.setting OfRanking ms f) n y l c.in_err-claim_told.field-0.0 s)
