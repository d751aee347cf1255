use Rattle.linear.specs.Forms.{form}
use Rattle.core_code.specs.View.{array}
use Rattle.facts.specs.Symbols.{constant, minus}
use Rattle.walk_trees.specs.Terms.{length_form}
use Rattle.std.specs.Prelude.{pos}
use Rattle.path_steps.specs.View.{followed, setting as seen}
use Rattle.path_steps.proofs.Accessing.{up_to_same}
use Rattle.path_steps.proofs.accesses.in_array.Goals as goal

pub returns : goal.returns
returns g c =
    let s = seen g.D.Domain c.args.setting.now in
    up_to_same s (form c.in_ok-last.last) (minus (length_form s (array c.args.array)) (constant (pos 1))) (form c.args.index.now) (followed c.args.path.now) (followed c.up_to_last.new.path) c.up_to_last.result c.in_ok-last.ensures c.up_to_last.ensures
