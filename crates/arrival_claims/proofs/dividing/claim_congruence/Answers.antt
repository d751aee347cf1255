use Rattle.std.proofs.Common.{subst}
use Rattle.linear.specs.Forms.{form, forms}
use Rattle.facts.proofs.Unmade.{handed}
use Rattle.obligations.specs.View.{congruence}
use Rattle.obligations.specs.Walking.{on_path}
use Rattle.path_steps.specs.View.{followed}
use Rattle.arrival_claims.specs.Unfit.{IsPut}
use Rattle.arrival_claims.specs.View.{placed}
use Rattle.arrival_claims.proofs.Lines.{divided_does, congruence_unmade}
use Rattle.arrival_claims.proofs.dividing.claim_congruence.Goals as goal

pub returns-in-Some : goal.returns-in-Some
returns-in-Some g c =
    let w = placed g.D.Domain c.args.placing.now in
    let l = followed c.args.path.now in
    let x = congruence c.args.congruence.now in
    let p = subst (IsPut (on_path w l.state) x.form) c.in-Some.is c.in_ok-told.ensures in
    divided_does w x l (forms c.in-Some.told.made.items) (form c.in-Some.told.form) (followed c.claim_put.new.path) c.claim_put.result p.0 p.1.0 p.1.1 c.claim_put.ensures

pub returns-in_err-told : goal.returns-in_err-told
returns-in_err-told g c =
    let k = congruence_unmade (placed g.D.Domain c.args.placing.now) (congruence c.args.congruence.now) (followed c.args.path.now) c.in_err-told.field-0.0 c.in_err-told.ensures in
    handed c.from_residual.result c.in_err-told.field-0.0 _ _ c.from_residual.ensures k
