use Rattle.std.proofs.Common.{subst}
use Rattle.linear.specs.Forms.{form, forms}
use Rattle.facts.proofs.Unmade.{handed}
use Rattle.obligations.specs.View.{multiple}
use Rattle.path_steps.specs.View.{followed}
use Rattle.arrival_claims.specs.Unfit.{ArePut}
use Rattle.arrival_claims.specs.View.{placed}
use Rattle.arrival_claims.proofs.Lines.{multiple_does, multiple_unmade}
use Rattle.arrival_claims.proofs.multiplying.claim_multiple.Goals as goal

pub returns-in-Some : goal.returns-in-Some
returns-in-Some g c =
    let w = placed g.D.Domain c.args.placing.now in
    let l = followed c.args.path.now in
    let m = multiple c.args.multiple.now in
    let p = subst (ArePut w l.state m) c.in-Some.is c.in_ok-told.ensures in
    multiple_does w m l (forms c.in-Some.told.made.items) (form c.in-Some.told.form) (form c.in-Some.told.of) (followed c.claim_put.new.path) c.claim_put.result p.0 p.1.0 p.1.1 p.1.2 c.claim_put.ensures

pub returns-in_err-told : goal.returns-in_err-told
returns-in_err-told g c =
    let k = multiple_unmade (placed g.D.Domain c.args.placing.now) (multiple c.args.multiple.now) (followed c.args.path.now) c.in_err-told.field-0.0 c.in_err-told.ensures in
    handed c.from_residual.result c.in_err-told.field-0.0 _ _ c.from_residual.ensures k
