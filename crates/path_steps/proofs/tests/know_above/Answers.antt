use Rattle.std.specs.Prelude.{pos}
use Rattle.linear.specs.Forms.{form}
use Rattle.facts.specs.Symbols.{constant, minus}
use Rattle.path_steps.specs.View.{followed, setting as seen}
use Rattle.path_steps.specs.declared.halt.Halt.TheVariants as halts
use Rattle.path_steps.proofs.Testing.{know_as, unfit_know, halted}
use Rattle.path_steps.proofs.tests.know_above.Goals as goal

pub returns : goal.returns
returns g c = know_as (seen g.D.Domain c.args.setting.now) c.args.setting.now.is_wide (minus (form c.args.form.now) (constant (pos 1))) (form c.in_ok-fact.fact) (followed c.args.path.now) (followed c.know_test.new.path) c.know_test.result c.in_ok-fact.ensures c.know_test.ensures

pub returns-in_err-fact : goal.returns-in_err-fact
returns-in_err-fact g c =
    let k = unfit_know (seen g.D.Domain c.args.setting.now) c.args.setting.now.is_wide (minus (form c.args.form.now) (constant (pos 1))) (followed c.args.path.now) (followed c.args.path.now) c.in_err-fact.field-0.0 c.in_err-fact.ensures in
    halted c.from_residual.result (halts.Refused c.in_err-fact.field-0.0) _ _ c.from_residual.ensures k
