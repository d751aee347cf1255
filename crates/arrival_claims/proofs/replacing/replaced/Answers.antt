use Rattle.std.proofs.Common.{◌++◌, ap, subst, ◌∙◌}
use Rattle.linear.specs.Forms.{form, forms}
use Rattle.facts.proofs.Unmade.{matched}
use Rattle.path_steps.specs.View.{followed}
use Rattle.obligations.specs.Replacing.{made}
use Rattle.obligations.specs.Walking.{on_path}
use Rattle.arrival_claims.specs.Unfit.{AreUnfit}
use Rattle.arrival_claims.specs.View.{placed}
use Rattle.arrival_claims.proofs.replacing.replaced.Goals as goal

pub returns : goal.returns
returns g c =
    let ms = made (on_path (placed g.D.Domain c.args.placing.now) (followed c.args.path.now).state) (form c.args.form.now) in
    let e = ap (λ x. forms x ++ ms) c.new.ensures.items in
    matched c.replaced_behind.result _ _ _ _ (λ r h. (h.0 ∙ e, h.1)) (λ x h. subst (AreUnfit x) e h) c.replaced_behind.ensures
