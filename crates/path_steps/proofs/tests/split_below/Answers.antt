use Rattle.linear.specs.Forms.{form}
use Rattle.path_steps.specs.View.{followed, setting as seen}
use Rattle.path_steps.proofs.Testing.{below_leads, below_halts, halted}
use Rattle.path_steps.proofs.tests.split_below.Goals as goal

pub returns : goal.returns
returns g c = below_leads (seen g.D.Domain c.args.setting.now) (form c.args.left.now) (form c.args.right.now) c.in_ok-first.first (followed c.args.path.now) (followed c.choose_side.new.path) (followed c.know_apart.new.path) c.in_ok-first.ensures c.in_ok-know_apart.ensures

pub returns-in_err-know_apart : goal.returns-in_err-know_apart
returns-in_err-know_apart g c =
    let k = below_halts (seen g.D.Domain c.args.setting.now) (form c.args.left.now) (form c.args.right.now) c.in_ok-first.first (followed c.args.path.now) (followed c.choose_side.new.path) (followed c.know_apart.new.path) c.in_err-know_apart.field-0.0 c.in_ok-first.ensures c.in_err-know_apart.ensures in
    halted c.from_residual-in_err-know_apart.result c.in_err-know_apart.field-0.0 _ _ c.from_residual-in_err-know_apart.ensures k
