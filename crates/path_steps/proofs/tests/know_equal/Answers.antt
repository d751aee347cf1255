use Rattle.linear.specs.Forms.{form}
use Rattle.facts.specs.Symbols.{minus}
use Rattle.path_steps.specs.View.{followed, setting as seen}
use Rattle.path_steps.proofs.Testing.{two_know, two_halts, halted}
use Rattle.path_steps.proofs.tests.know_equal.Goals as goal

pub returns : goal.returns
returns g c = two_know (seen g.D.Domain c.args.setting.now) c.args.setting.now.is_wide (minus (form c.args.left.now) (form c.args.right.now)) (minus (form c.args.right.now) (form c.args.left.now)) (followed c.args.path.now) (followed c.know_apart.new.path) (followed c.know_apart-2.new.path) c.know_apart-2.result c.in_ok-know_apart.ensures c.know_apart-2.ensures

pub returns-in_err-know_apart : goal.returns-in_err-know_apart
returns-in_err-know_apart g c =
    let k = two_halts (seen g.D.Domain c.args.setting.now) c.args.setting.now.is_wide (minus (form c.args.left.now) (form c.args.right.now)) (minus (form c.args.right.now) (form c.args.left.now)) (followed c.args.path.now) (followed c.know_apart.new.path) c.in_err-know_apart.field-0.0 c.in_err-know_apart.ensures in
    halted c.from_residual.result c.in_err-know_apart.field-0.0 _ _ c.from_residual.ensures k
