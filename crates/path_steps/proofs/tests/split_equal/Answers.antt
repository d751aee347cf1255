use Rattle.linear.specs.Forms.{form}
use Rattle.path_steps.specs.View.{followed, setting as seen}
use Rattle.path_steps.proofs.Testing.{equal_first, equal_first_halts, equal_second, halted}
use Rattle.path_steps.proofs.tests.split_equal.Goals as goal

pub returns : goal.returns
returns g c = equal_second (seen g.D.Domain c.args.setting.now) (form c.args.left.now) (form c.args.right.now) c.in_ok-choose_equal.field-0 (followed c.args.path.now) (followed c.choose_equal.new.path) (followed c.split_apart.new.path) c.split_apart.result c.in_ok-choose_equal.ensures c.if-branch.false c.split_apart.ensures

pub returns-then-branch : goal.returns-then-branch
returns-then-branch g c = equal_first (seen g.D.Domain c.args.setting.now) (form c.args.left.now) (form c.args.right.now) c.in_ok-choose_equal.field-0 (followed c.args.path.now) (followed c.choose_equal.new.path) (followed c.know_equal.new.path) c.in_ok-choose_equal.ensures c.if-branch.true c.in_ok-know_equal.ensures

pub returns-in_err-know_equal : goal.returns-in_err-know_equal
returns-in_err-know_equal g c =
    let k = equal_first_halts (seen g.D.Domain c.args.setting.now) (form c.args.left.now) (form c.args.right.now) c.in_ok-choose_equal.field-0 (followed c.args.path.now) (followed c.choose_equal.new.path) (followed c.know_equal.new.path) c.in_err-know_equal.field-0.0 c.in_ok-choose_equal.ensures c.if-branch.true c.in_err-know_equal.ensures in
    halted c.from_residual-in_err-know_equal.result c.in_err-know_equal.field-0.0 _ _ c.from_residual-in_err-know_equal.ensures k
