use Rattle.std.specs.Prelude.{pos, negsuc}
use Rattle.linear.specs.Exact.{multiple}
use Rattle.linear.specs.Forms.{form}
use Rattle.facts.specs.Symbols.{constant, minus}
use Rattle.path_steps.specs.View.{followed, setting as seen}
use Rattle.path_steps.proofs.Testing.{ways_first, ways_first_halts, ways_second, ways_second_halts, ways_third, ways_third_halts, halted}
use Rattle.path_steps.proofs.tests.split_sign.Goals as goal

pub returns : goal.returns
returns g c = ways_third (seen g.D.Domain c.args.setting.now) (minus (form c.args.form.now) (constant (pos 1))) (minus (constant (negsuc 0)) (form c.args.form.now)) (form c.args.form.now) (multiple (negsuc 0) (form c.args.form.now)) c.in_ok-out.out c.in_ok-choose_first.field-0 c.in_ok-choose_unless.field-0 (followed c.args.path.now) (followed c.choose_first.new.path) (followed c.choose_unless.new.self) (followed c.know_zero.new.path) c.in_ok-out.ensures c.in_ok-choose_first.ensures c.if-branch.false c.in_ok-choose_unless.ensures c.if-branch-2.false c.in_ok-know_zero.ensures

pub returns-then-branch : goal.returns-then-branch
returns-then-branch g c = ways_first (seen g.D.Domain c.args.setting.now) (minus (form c.args.form.now) (constant (pos 1))) (minus (constant (negsuc 0)) (form c.args.form.now)) (form c.args.form.now) (multiple (negsuc 0) (form c.args.form.now)) c.in_ok-out.out c.in_ok-choose_first.field-0 (followed c.args.path.now) (followed c.choose_first.new.path) (followed c.know_above.new.path) c.in_ok-out.ensures c.in_ok-choose_first.ensures c.if-branch.true c.in_ok-know_above.ensures

pub returns-then-branch-2 : goal.returns-then-branch-2
returns-then-branch-2 g c = ways_second (seen g.D.Domain c.args.setting.now) (minus (form c.args.form.now) (constant (pos 1))) (minus (constant (negsuc 0)) (form c.args.form.now)) (form c.args.form.now) (multiple (negsuc 0) (form c.args.form.now)) c.in_ok-out.out c.in_ok-choose_first.field-0 c.in_ok-choose_unless.field-0 (followed c.args.path.now) (followed c.choose_first.new.path) (followed c.choose_unless.new.self) (followed c.know_below.new.path) c.in_ok-out.ensures c.in_ok-choose_first.ensures c.if-branch.false c.in_ok-choose_unless.ensures c.if-branch-2.true c.in_ok-know_below.ensures

pub returns-in_err-know_zero : goal.returns-in_err-know_zero
returns-in_err-know_zero g c =
    let k = ways_third_halts (seen g.D.Domain c.args.setting.now) (minus (form c.args.form.now) (constant (pos 1))) (minus (constant (negsuc 0)) (form c.args.form.now)) (form c.args.form.now) (multiple (negsuc 0) (form c.args.form.now)) c.in_ok-out.out c.in_ok-choose_first.field-0 c.in_ok-choose_unless.field-0 (followed c.args.path.now) (followed c.choose_first.new.path) (followed c.choose_unless.new.self) (followed c.know_zero.new.path) c.in_err-know_zero.field-0.0 c.in_ok-out.ensures c.in_ok-choose_first.ensures c.if-branch.false c.in_ok-choose_unless.ensures c.if-branch-2.false c.in_err-know_zero.ensures in
    halted c.from_residual-in_err-know_zero.result c.in_err-know_zero.field-0.0 _ _ c.from_residual-in_err-know_zero.ensures k

pub returns-in_err-know_above : goal.returns-in_err-know_above
returns-in_err-know_above g c =
    let k = ways_first_halts (seen g.D.Domain c.args.setting.now) (minus (form c.args.form.now) (constant (pos 1))) (minus (constant (negsuc 0)) (form c.args.form.now)) (form c.args.form.now) (multiple (negsuc 0) (form c.args.form.now)) c.in_ok-out.out c.in_ok-choose_first.field-0 (followed c.args.path.now) (followed c.choose_first.new.path) (followed c.know_above.new.path) c.in_err-know_above.field-0.0 c.in_ok-out.ensures c.in_ok-choose_first.ensures c.if-branch.true c.in_err-know_above.ensures in
    halted c.from_residual-in_err-know_above.result c.in_err-know_above.field-0.0 _ _ c.from_residual-in_err-know_above.ensures k

pub returns-in_err-know_below : goal.returns-in_err-know_below
returns-in_err-know_below g c =
    let k = ways_second_halts (seen g.D.Domain c.args.setting.now) (minus (form c.args.form.now) (constant (pos 1))) (minus (constant (negsuc 0)) (form c.args.form.now)) (form c.args.form.now) (multiple (negsuc 0) (form c.args.form.now)) c.in_ok-out.out c.in_ok-choose_first.field-0 c.in_ok-choose_unless.field-0 (followed c.args.path.now) (followed c.choose_first.new.path) (followed c.choose_unless.new.self) (followed c.know_below.new.path) c.in_err-know_below.field-0.0 c.in_ok-out.ensures c.in_ok-choose_first.ensures c.if-branch.false c.in_ok-choose_unless.ensures c.if-branch-2.true c.in_err-know_below.ensures in
    halted c.from_residual-in_err-know_below.result c.in_err-know_below.field-0.0 _ _ c.from_residual-in_err-know_below.ensures k
