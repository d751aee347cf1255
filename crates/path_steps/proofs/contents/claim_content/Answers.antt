use Rattle.std.proofs.Common.{sym, ◌∙◌}
use Rattle.linear.specs.Forms.{form}
use Rattle.facts.specs.View.{buffer_bound}
use Rattle.facts.proofs.Unmade.{handed}
use Rattle.path_steps.specs.View.{followed, setting as seen}
use Rattle.path_steps.proofs.Lines.{claimed_not, claimed_so, claimed_unfit}
use Rattle.path_steps.proofs.contents.claim_content.Goals as goal

pub returns : goal.returns
returns g c = claimed_so (seen g.D.Domain c.args.setting.now) _ (sym c.is_of.ensures ∙ c.if-not-is_of.false) (buffer_bound c.args.bound.now) (form c.args.form.now) (form c.in_ok-owed.owed) (followed c.args.path.now) (followed c.claim_form.new.path) c.claim_form.result c.in_ok-owed.ensures c.claim_form.ensures

pub returns-then-not-is_of : goal.returns-then-not-is_of
returns-then-not-is_of g c = claimed_not (seen g.D.Domain c.args.setting.now) _ (buffer_bound c.args.bound.now) (form c.args.form.now) (followed c.args.path.now) (sym c.is_of.ensures ∙ c.if-not-is_of.true)

pub returns-in_err-owed : goal.returns-in_err-owed
returns-in_err-owed g c =
    let k = claimed_unfit (seen g.D.Domain c.args.setting.now) _ (sym c.is_of.ensures ∙ c.if-not-is_of.false) (buffer_bound c.args.bound.now) (form c.args.form.now) (followed c.args.path.now) c.in_err-owed.field-0.0 c.in_err-owed.ensures in
    handed c.from_residual.result c.in_err-owed.field-0.0 _ _ c.from_residual.ensures k
