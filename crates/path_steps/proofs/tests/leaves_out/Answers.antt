use Rattle.path_steps.specs.View.{followed, setting as seen}
use Rattle.path_steps.proofs.Testing.{asked_made}
use Rattle.path_steps.proofs.tests.leaves_out.Goals as goal

pub returns-in-Ok : goal.returns-in-Ok
returns-in-Ok g c = asked_made (seen g.D.Domain c.args.setting.now) c.args.by_elements (followed c.args.path.now).state c.args.fact c.in-Ok.form c.is_left_out.result c.in-Ok.is c.is_left_out.ensures
