use Rattle.linear.specs.Forms.{form}
use Rattle.words.specs.View.{kind}
use Rattle.core_code.specs.View.{operator}
use Rattle.path_steps.specs.View.{followed, setting as seen, value}
use Rattle.path_walk.proofs.Operating.{looked_up}
use Rattle.path_walk.proofs.operators.operate_known.Goals as goal

pub returns : goal.returns
returns g c = looked_up (seen g.D.Domain c.args.setting.now) (operator c.args.operator) (kind c.args.kind) (form c.args.left.now) (form c.args.right.now) (form c.in_ok-first.first) (form c.in_ok-second.second) (followed c.args.path.now) (followed c.operate.new.path) value c.operate.result c.in_ok-first.ensures c.in_ok-second.ensures c.operate.ensures
