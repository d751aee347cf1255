use Rattle.linear.specs.Forms.{form}
use Rattle.path_steps.specs.View.{followed, setting as seen}
use Rattle.path_steps.proofs.Testing.{know_as}
use Rattle.path_steps.proofs.tests.know_form.Goals as goal

pub returns : goal.returns
returns g c = know_as (seen g.D.Domain c.args.setting.now) c.args.setting.now.is_wide (form c.args.form.now) (form c.in_ok-fact.fact) (followed c.args.path.now) (followed c.know_test.new.path) c.know_test.result c.in_ok-fact.ensures c.know_test.ensures
