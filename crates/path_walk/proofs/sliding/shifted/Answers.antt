use Rattle.std.proofs.Common.{ap, ◌∙◌}
use Rattle.linear.specs.Forms.{form}
use Rattle.words.specs.View.{kind}
use Rattle.core_code.specs.View.{direction}
use Rattle.walk_trees.specs.Shifts.{count_in, shift_by}
use Rattle.walk_trees.specs.Walks.{known_form}
use Rattle.path_steps.specs.View.{followed, setting as seen, value}
use Rattle.path_walk.proofs.Operating.{by_this}
use Rattle.path_walk.proofs.sliding.shifted.Goals as goal

pub returns : goal.returns
returns g c =
    let s = seen g.D.Domain c.args.setting.now in
    by_this (λ o. shift_by s o (direction c.args.direction) (kind c.args.kind) (form c.args.of.now)) (λ st. count_in (known_form s st (form c.args.count.now))) c.count_in-count.result (followed c.args.path.now) (followed c.shift_by.new.path) value c.shift_by.result (c.count_in-count.ensures.value ∙ ap count_in c.in_ok-known.ensures) c.shift_by.ensures
