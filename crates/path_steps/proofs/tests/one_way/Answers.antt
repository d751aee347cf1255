use Rattle.std.specs.Prelude.{false}
use Rattle.path_steps.specs.declared.halt.Halt.TheVariants as halts
use Rattle.path_steps.proofs.Testing.{halted}
use Rattle.path_steps.proofs.tests.one_way.Goals as goal

pub returns : goal.returns
returns g c = λ go. c.in_ok-tell_apart.ensures (go false)

pub returns-in_err-tell_apart : goal.returns-in_err-tell_apart
returns-in_err-tell_apart g c = halted c.from_residual.result (halts.Refused c.in_err-tell_apart.field-0.0) _ _ c.from_residual.ensures (λ go. c.in_err-tell_apart.ensures (go false))
