use Rattle.linear.specs.Forms.{form}
use Rattle.facts.specs.Symbols.{minus}
use Rattle.walk_trees.specs.Tests.{below}
use Rattle.path_steps.specs.View.{followed, setting as seen}
use Rattle.path_steps.proofs.Testing.{ways_first, ways_first_halts, ways_second, ways_second_halts, ways_third, ways_third_halts, halted}
use Rattle.path_steps.proofs.tests.split_order.Goals as goal

pub returns : goal.returns
returns g c = ways_third (seen g.D.Domain c.args.setting.now) (below (form c.args.left.now) (form c.args.right.now)) (below (form c.args.right.now) (form c.args.left.now)) (minus (form c.args.left.now) (form c.args.right.now)) (minus (form c.args.right.now) (form c.args.left.now)) c.in_ok-out.out c.in_ok-choose_first.field-0 c.in_ok-choose_unless.field-0 (followed c.args.path.now) (followed c.choose_first.new.path) (followed c.choose_unless.new.self) (followed c.know_equal.new.path) c.in_ok-out.ensures c.in_ok-choose_first.ensures c.if-branch.false c.in_ok-choose_unless.ensures c.if-branch-2.false c.in_ok-know_equal.ensures

pub returns-then-branch : goal.returns-then-branch
returns-then-branch g c = ways_first (seen g.D.Domain c.args.setting.now) (below (form c.args.left.now) (form c.args.right.now)) (below (form c.args.right.now) (form c.args.left.now)) (minus (form c.args.left.now) (form c.args.right.now)) (minus (form c.args.right.now) (form c.args.left.now)) c.in_ok-out.out c.in_ok-choose_first.field-0 (followed c.args.path.now) (followed c.choose_first.new.path) (followed c.know_apart.new.path) c.in_ok-out.ensures c.in_ok-choose_first.ensures c.if-branch.true c.in_ok-know_apart.ensures

pub returns-then-branch-2 : goal.returns-then-branch-2
returns-then-branch-2 g c = ways_second (seen g.D.Domain c.args.setting.now) (below (form c.args.left.now) (form c.args.right.now)) (below (form c.args.right.now) (form c.args.left.now)) (minus (form c.args.left.now) (form c.args.right.now)) (minus (form c.args.right.now) (form c.args.left.now)) c.in_ok-out.out c.in_ok-choose_first.field-0 c.in_ok-choose_unless.field-0 (followed c.args.path.now) (followed c.choose_first.new.path) (followed c.choose_unless.new.self) (followed c.know_apart-then-branch-2.new.path) c.in_ok-out.ensures c.in_ok-choose_first.ensures c.if-branch.false c.in_ok-choose_unless.ensures c.if-branch-2.true c.in_ok-know_apart-2.ensures

pub returns-in_err-know_equal : goal.returns-in_err-know_equal
returns-in_err-know_equal g c =
    let k = ways_third_halts (seen g.D.Domain c.args.setting.now) (below (form c.args.left.now) (form c.args.right.now)) (below (form c.args.right.now) (form c.args.left.now)) (minus (form c.args.left.now) (form c.args.right.now)) (minus (form c.args.right.now) (form c.args.left.now)) c.in_ok-out.out c.in_ok-choose_first.field-0 c.in_ok-choose_unless.field-0 (followed c.args.path.now) (followed c.choose_first.new.path) (followed c.choose_unless.new.self) (followed c.know_equal.new.path) c.in_err-know_equal.field-0.0 c.in_ok-out.ensures c.in_ok-choose_first.ensures c.if-branch.false c.in_ok-choose_unless.ensures c.if-branch-2.false c.in_err-know_equal.ensures in
    halted c.from_residual-in_err-know_equal.result c.in_err-know_equal.field-0.0 _ _ c.from_residual-in_err-know_equal.ensures k

pub returns-in_err-know_apart : goal.returns-in_err-know_apart
returns-in_err-know_apart g c =
    let k = ways_first_halts (seen g.D.Domain c.args.setting.now) (below (form c.args.left.now) (form c.args.right.now)) (below (form c.args.right.now) (form c.args.left.now)) (minus (form c.args.left.now) (form c.args.right.now)) (minus (form c.args.right.now) (form c.args.left.now)) c.in_ok-out.out c.in_ok-choose_first.field-0 (followed c.args.path.now) (followed c.choose_first.new.path) (followed c.know_apart.new.path) c.in_err-know_apart.field-0.0 c.in_ok-out.ensures c.in_ok-choose_first.ensures c.if-branch.true c.in_err-know_apart.ensures in
    halted c.from_residual-in_err-know_apart.result c.in_err-know_apart.field-0.0 _ _ c.from_residual-in_err-know_apart.ensures k

pub returns-in_err-know_apart-2 : goal.returns-in_err-know_apart-2
returns-in_err-know_apart-2 g c =
    let k = ways_second_halts (seen g.D.Domain c.args.setting.now) (below (form c.args.left.now) (form c.args.right.now)) (below (form c.args.right.now) (form c.args.left.now)) (minus (form c.args.left.now) (form c.args.right.now)) (minus (form c.args.right.now) (form c.args.left.now)) c.in_ok-out.out c.in_ok-choose_first.field-0 c.in_ok-choose_unless.field-0 (followed c.args.path.now) (followed c.choose_first.new.path) (followed c.choose_unless.new.self) (followed c.know_apart-then-branch-2.new.path) c.in_err-know_apart-2.field-0.0 c.in_ok-out.ensures c.in_ok-choose_first.ensures c.if-branch.false c.in_ok-choose_unless.ensures c.if-branch-2.true c.in_err-know_apart-2.ensures in
    halted c.from_residual-in_err-know_apart-2.result c.in_err-know_apart-2.field-0.0 _ _ c.from_residual-in_err-know_apart-2.ensures k
