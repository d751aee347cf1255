use Rattle.linear.specs.Forms.{form}
use Rattle.path_steps.specs.View.{followed, setting as seen}
use Rattle.path_steps.proofs.Testing.{two_know, two_halts, halted}
use Rattle.path_steps.proofs.tests.know_both.Goals as goal

pub returns : goal.returns
returns g c = two_know (seen g.D.Domain c.args.setting.now) c.args.setting.now.is_wide (form c.args.form.now) (form c.args.negation.now) (followed c.args.path.now) (followed c.know_form.new.path) (followed c.know_form-2.new.path) c.know_form-2.result c.in_ok-know_form.ensures c.know_form-2.ensures

pub returns-in_err-know_form : goal.returns-in_err-know_form
returns-in_err-know_form g c =
    let k = two_halts (seen g.D.Domain c.args.setting.now) c.args.setting.now.is_wide (form c.args.form.now) (form c.args.negation.now) (followed c.args.path.now) (followed c.know_form.new.path) c.in_err-know_form.field-0.0 c.in_err-know_form.ensures in
    halted c.from_residual.result c.in_err-know_form.field-0.0 _ _ c.from_residual.ensures k
