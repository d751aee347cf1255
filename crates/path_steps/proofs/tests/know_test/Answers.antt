use Rattle.linear.specs.Forms.{form}
use Rattle.path_steps.specs.View.{followed, setting as seen}
use Rattle.path_steps.proofs.Testing.{know_steps, know_dead}
use Rattle.path_steps.proofs.tests.know_test.Goals as goal

pub returns : goal.returns
returns g c = know_steps (seen g.D.Domain c.args.setting.now) c.args.by_elements c.is_left_out.result (form c.args.fact) (followed c.args.path.now) (followed c.narrow.new.path) (followed c.know.new.self) c.is_left_out.ensures c.if-is_left_out.false c.in_ok-narrow.ensures c.in_ok-know.ensures

pub returns-then-is_left_out : goal.returns-then-is_left_out
returns-then-is_left_out g c = know_dead (seen g.D.Domain c.args.setting.now) c.args.by_elements c.is_left_out.result (form c.args.fact) (followed c.args.path.now) c.is_left_out.ensures c.if-is_left_out.true
