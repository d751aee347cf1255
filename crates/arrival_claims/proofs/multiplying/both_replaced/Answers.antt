use Rattle.std.proofs.Common.{◌++◌, ap, subst, ◌∙◌}
use Rattle.facts.proofs.Unmade.{handed}
use Rattle.obligations.specs.Replacing.{made}
use Rattle.obligations.specs.View.{multiple}
use Rattle.obligations.specs.Walking.{on_path}
use Rattle.path_steps.specs.View.{followed}
use Rattle.arrival_claims.specs.Unfit.{AreUnfit}
use Rattle.arrival_claims.specs.View.{placed}
use Rattle.arrival_claims.proofs.Lines.{before}
use Rattle.arrival_claims.proofs.multiplying.both_replaced.Goals as goal

pub returns : goal.returns
returns g c =
    let by = on_path (placed g.D.Domain c.args.placing.now) (followed c.args.path.now).state in
    let m = multiple c.args.multiple.now in
    (c.in_ok-of.ensures.0 ∙ ap (λ x. x ++ made by m.of) c.in_ok-told.ensures.0, c.in_ok-told.ensures.1, c.in_ok-of.ensures.1)

pub returns-in_err-told : goal.returns-in_err-told
returns-in_err-told g c =
    let by = on_path (placed g.D.Domain c.args.placing.now) (followed c.args.path.now).state in
    let m = multiple c.args.multiple.now in
    handed c.from_residual.result c.in_err-told.field-0.0 _ _ c.from_residual.ensures (before c.in_err-told.field-0.0 (made by m.form) (made by m.of) c.in_err-told.ensures)

pub returns-in_err-of : goal.returns-in_err-of
returns-in_err-of g c =
    let by = on_path (placed g.D.Domain c.args.placing.now) (followed c.args.path.now).state in
    let m = multiple c.args.multiple.now in
    handed c.from_residual-in_err-of.result c.in_err-of.field-0.0 _ _ c.from_residual-in_err-of.ensures (subst (AreUnfit c.in_err-of.field-0.0) (ap (λ x. x ++ made by m.of) c.in_ok-told.ensures.0) c.in_err-of.ensures)
