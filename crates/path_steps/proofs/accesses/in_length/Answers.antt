use Rattle.linear.specs.Forms.{form}
use Rattle.facts.specs.Symbols.{constant, minus}
use Rattle.std.specs.Prelude.{pos}
use Rattle.path_steps.specs.View.{followed, setting as seen}
use Rattle.path_steps.proofs.Accessing.{up_to_same}
use Rattle.path_steps.proofs.accesses.in_length.Goals as goal

pub returns : goal.returns
returns g c =
    up_to_same (seen g.D.Domain c.args.setting.now) (form c.last_number-last.result) (minus (constant (pos c.args.length)) (constant (pos 1))) (form c.args.index.now) (followed c.args.path.now) (followed c.up_to_last.new.path) c.up_to_last.result c.last_number-last.ensures c.up_to_last.ensures
