use Rattle.std.specs.Prelude.{pos}
use Rattle.linear.specs.Forms.{form}
use Rattle.facts.specs.Symbols.{constant, minus}
use Rattle.path_steps.proofs.tests.leaves_out_above.Goals as goal

pub returns : goal.returns
returns g c = c.leaves_out.ensures (minus (form c.args.form.now) (constant (pos 1))) c.less_number-fact.ensures
