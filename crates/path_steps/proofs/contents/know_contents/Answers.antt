use Rattle.std.proofs.Common.{ap}
use Rattle.linear.specs.Forms.{form}
use Rattle.core_code.specs.View.{space}
use Rattle.path_steps.specs.View.{followed, setting as seen}
use Rattle.path_steps.proofs.Lines.{known_in}
use Rattle.path_steps.proofs.contents.know_contents.Goals as goal

pub returns-in-Global : goal.returns-in-Global
returns-in-Global g c = known_in (seen g.D.Domain c.args.setting.now) (space c.args.array.space) c.args.array.number (form c.args.form.now) (followed c.args.path.now) (followed c.know_of_buffer.new.path) c.know_of_buffer.result (ap space c.in-Global.is) c.know_of_buffer.ensures
