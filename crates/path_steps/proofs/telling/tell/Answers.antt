use Rattle.linear.specs.Forms.{form}
use Rattle.path_steps.specs.View.{followed, setting as seen}
use Rattle.path_steps.proofs.Told.{tell_steps}
use Rattle.path_steps.proofs.telling.tell.Goals as goal

pub returns : goal.returns
returns g c = tell_steps (seen g.D.Domain c.args.setting.now) (form c.args.fact) (followed c.args.path.now) (followed c.narrow.new.path) (followed c.know.new.self) c.in_ok-narrow.ensures c.in_ok-know.ensures
