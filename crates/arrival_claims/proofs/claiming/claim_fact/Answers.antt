use Rattle.std.proofs.Common.{subst}
use Rattle.linear.specs.Forms.{form, forms}
use Rattle.facts.proofs.Unmade.{handed}
use Rattle.obligations.specs.Walking.{on_path}
use Rattle.path_steps.specs.View.{followed}
use Rattle.arrival_claims.specs.Unfit.{IsPut}
use Rattle.arrival_claims.specs.View.{placed}
use Rattle.arrival_claims.proofs.Lines.{told_does, fact_unmade}
use Rattle.arrival_claims.proofs.claiming.claim_fact.Goals as goal

pub returns-in-Some : goal.returns-in-Some
unfolding placed
returns-in-Some g c =
    let w = placed g.D.Domain c.args.placing.now in
    let l = followed c.args.path.now in
    let f = form c.args.fact.now in
    let p = subst (IsPut (on_path w l.state) f) c.in-Some.is c.in_ok-told.ensures in
    told_does w f l (forms c.in-Some.told.made.items) (form c.in-Some.told.form) (followed c.claim_told.new.path) c.claim_told.result p.0 p.1.0 p.1.1 c.claim_told.ensures

pub returns-in_err-told : goal.returns-in_err-told
returns-in_err-told g c =
    let k = fact_unmade (placed g.D.Domain c.args.placing.now) (form c.args.fact.now) (followed c.args.path.now) c.in_err-told.field-0.0 c.in_err-told.ensures in
    handed c.from_residual.result c.in_err-told.field-0.0 _ _ c.from_residual.ensures k
