use Rattle.linear.specs.Forms.{form}
use Rattle.words.specs.View.{kind}
use Rattle.std.specs.Prelude.{pos}
use Rattle.walk_trees.specs.Quotients.{left_by}
use Rattle.walk_trees.specs.Bits.{bits_from}
use Rattle.path_steps.specs.View.{followed, setting as seen}
use Rattle.path_walk.proofs.BitSteps.{turn_says}
use Rattle.path_walk.proofs.joining.bit_from.Goals as goal

pub returns-clause-leads : goal.returns-clause-leads
returns-clause-leads g c =
    let s = seen g.D.Domain c.args.setting.now in
    let k = kind c.args.kind in
    turn_says (λ st go. bits_from s k (form c.args.of.now) c.args.lowest st go) (λ q. left_by s k q (pos 2)) (form c.in_ok-above.above) (followed c.args.path.now) (followed c.bits_from.new.path) (followed c.name_left.new.path) form c.name_left.result c.in_ok-above.ensures c.name_left.ensures.leads
