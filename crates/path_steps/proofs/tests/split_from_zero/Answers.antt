use Rattle.linear.specs.Forms.{form}
use Rattle.path_steps.specs.View.{followed, setting as seen}
use Rattle.path_steps.specs.declared.halt.Halt.TheVariants as halts
use Rattle.path_steps.proofs.Testing.{zero_first, zero_first_stops, zero_second, zero_second_halts, halted}
use Rattle.path_steps.proofs.tests.split_from_zero.Goals as goal

pub returns : goal.returns
returns g c = zero_second (seen g.D.Domain c.args.setting.now) (form c.args.form.now) (form c.args.negation.now) c.in_ok-choose.field-0 (followed c.args.path.now) (followed c.choose.new.self) (followed c.know_both.new.path) c.in_ok-choose.ensures c.if-branch.false c.in_ok-know_both.ensures

pub returns-then-branch : goal.returns-then-branch
returns-then-branch g c = zero_first (seen g.D.Domain c.args.setting.now) (form c.args.form.now) (form c.args.negation.now) c.in_ok-choose.field-0 (followed c.args.path.now) (followed c.choose.new.self) (followed c.tell_apart.new.path) c.in_ok-choose.ensures c.if-branch.true c.in_ok-tell_apart.ensures

pub returns-in_err-tell_apart : goal.returns-in_err-tell_apart
returns-in_err-tell_apart g c =
    let k = zero_first_stops (seen g.D.Domain c.args.setting.now) (form c.args.form.now) (form c.args.negation.now) c.in_ok-choose.field-0 (followed c.args.path.now) (followed c.choose.new.self) (followed c.tell_apart.new.path) c.in_err-tell_apart.field-0.0 c.in_ok-choose.ensures c.if-branch.true c.in_err-tell_apart.ensures in
    halted c.from_residual-in_err-tell_apart.result (halts.Refused c.in_err-tell_apart.field-0.0) _ _ c.from_residual-in_err-tell_apart.ensures k

pub returns-in_err-know_both : goal.returns-in_err-know_both
returns-in_err-know_both g c =
    let k = zero_second_halts (seen g.D.Domain c.args.setting.now) (form c.args.form.now) (form c.args.negation.now) c.in_ok-choose.field-0 (followed c.args.path.now) (followed c.choose.new.self) (followed c.know_both.new.path) c.in_err-know_both.field-0.0 c.in_ok-choose.ensures c.if-branch.false c.in_err-know_both.ensures in
    halted c.from_residual-in_err-know_both.result c.in_err-know_both.field-0.0 _ _ c.from_residual-in_err-know_both.ensures k
