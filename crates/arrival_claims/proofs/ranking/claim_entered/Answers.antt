use Rattle.std.proofs.Common.{subst}
use Rattle.linear.specs.Forms.{form, forms}
use Rattle.facts.proofs.Unmade.{handed}
use Rattle.path_steps.specs.View.{followed}
use Rattle.arrival_claims.specs.View.{placed}
use Rattle.obligations.specs.Walking.{on_path}
use Rattle.arrival_claims.specs.Unfit.{IsPut}
use Rattle.arrival_claims.proofs.Rankings.{entered_does, entered_never, entered_unmade}
use Rattle.arrival_claims.proofs.ranking.claim_entered.Goals as goal

pub returns-in-Some : goal.returns-in-Some
returns-in-Some g c =
    let w = placed g.D.Domain c.args.placing.now in
    let l = followed c.args.path.now in
    let n = c.args.number in
    let p = subst (IsPut (on_path w l.state) (w.notes.ranking n).form) c.in-Some.is c.in_ok-told.ensures in
    entered_does w n l (forms c.in-Some.told.made.items) (form c.in-Some.told.form) (followed c.put_entered.new.path) c.put_entered.result p c.put_entered.ensures

pub returns-in-None : goal.returns-in-None
returns-in-None g c =
    let w = placed g.D.Domain c.args.placing.now in
    let l = followed c.args.path.now in
    let n = c.args.number in
    let p = subst (IsPut (on_path w l.state) (w.notes.ranking n).form) c.in-None.is c.in_ok-told.ensures in
    entered_never w n l (followed c.never_entered.new.path) c.never_entered.result p c.never_entered.ensures

pub returns-in_err-told : goal.returns-in_err-told
returns-in_err-told g c =
    let k = entered_unmade (placed g.D.Domain c.args.placing.now) c.args.number (followed c.args.path.now) c.in_err-told.field-0.0 c.in_err-told.ensures in
    handed c.from_residual.result c.in_err-told.field-0.0 _ _ c.from_residual.ensures k
