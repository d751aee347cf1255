use Rattle.linear.specs.Forms.{form}
use Rattle.facts.specs.Symbols.{minus}
use Rattle.walk_trees.specs.Bits.{tell_where}
use Rattle.path_steps.specs.View.{followed, setting as seen}
use Rattle.path_steps.proofs.Refusing.{then_step}
use Rattle.path_walk.proofs.joining.told_above.Goals as goal

pub returns : goal.returns
returns g c =
    let s = seen g.D.Domain c.args.setting.now in
    let r = form c.args.of.now in
    then_step (tell_where s c.args.is_or (minus r (form c.args.left.now))) (tell_where s c.args.is_or (minus r (form c.args.right.now))) (followed c.args.path.now) (followed c.tell_order_where.new.path) (followed c.tell_order_where-2.new.path) c.tell_order_where-2.result c.in_ok-tell_order_where.ensures c.tell_order_where-2.ensures
