use Rattle.std.specs.Prelude.{negsuc, Bool}
use Rattle.linear.specs.Exact.{multiple}
use Rattle.linear.specs.Forms.{form}
use Rattle.facts.specs.Symbols.{Fact}
use Rattle.walk_trees.specs.Walks.{is_left_out}
use Rattle.path_steps.specs.View.{followed, setting as seen}
use Rattle.path_steps.proofs.Testing.{either_asked}
use Rattle.path_steps.proofs.tests.leaves_out_zero.Goals as goal

pub returns : goal.returns
returns g c =
    let f = form c.args.form.now in
    let out : Fact → Bool = λ x. is_left_out (seen g.D.Domain c.args.setting.now) c.args.setting.now.is_wide x (followed c.args.path.now).state in
    either_asked c.is_left_out.result (out f) (out (multiple (negsuc 0) f)) c.leaves_out.result c.is_left_out.ensures c.if-is_left_out.false (c.leaves_out.ensures (multiple (negsuc 0) f) c.negated-fact.ensures)
