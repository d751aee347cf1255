use Rattle.std.specs.Prelude.{negsuc}
use Rattle.linear.specs.Forms.{form}
use Rattle.facts.specs.Symbols.{constant, minus}
use Rattle.path_steps.proofs.tests.leaves_out_below.Goals as goal

pub returns : goal.returns
returns g c = c.leaves_out.ensures (minus (constant (negsuc 0)) (form c.args.form.now)) c.number_less-fact.ensures
