use Rattle.words.specs.View.{kind}
use Rattle.core_code.specs.View.{direction}
use Rattle.walk_trees.specs.Values as values
use Rattle.walk_trees.specs.Walks.{brought}
use Rattle.walk_trees.specs.Shifts.{shifted}
use Rattle.path_steps.specs.View.{followed, value, setting as seen}
use Rattle.path_walk.proofs.AtSites.{turn_refused, turn_refused_behind}
use Rattle.path_walk.proofs.Operating.{turn_leads}
use Rattle.path_walk.proofs.operands.shift_values.Goals as goal

pub returns : goal.returns
returns g c =
    let s = seen g.D.Domain c.args.setting.now in
    let two = λ (x : values.Value). shifted s (direction c.args.direction) (kind c.args.kind) x.form (value c.args.count).form in
    turn_leads (brought s (kind c.args.kind) (value c.args.left)) two (value c.in_ok-left.left) (value c.in_ok-value.value) (followed c.args.path.now) (followed c.brought.new.path) (followed c.shifted.new.path) c.in_ok-left.ensures c.in_ok-value.ensures

pub returns-in_err-left : goal.returns-in_err-left
returns-in_err-left g c =
    let s = seen g.D.Domain c.args.setting.now in
    let two = λ (x : values.Value). shifted s (direction c.args.direction) (kind c.args.kind) x.form (value c.args.count).form in
    turn_refused (brought s (kind c.args.kind) (value c.args.left)) two (followed c.args.path.now) (followed c.brought.new.path) value c.from_residual.result c.in_err-left.field-0.0 c.from_residual.ensures c.in_err-left.ensures

pub returns-in_err-value : goal.returns-in_err-value
returns-in_err-value g c =
    let s = seen g.D.Domain c.args.setting.now in
    let two = λ (x : values.Value). shifted s (direction c.args.direction) (kind c.args.kind) x.form (value c.args.count).form in
    turn_refused_behind (brought s (kind c.args.kind) (value c.args.left)) two (value c.in_ok-left.left) (followed c.args.path.now) (followed c.brought.new.path) (followed c.shifted.new.path) value c.from_residual-in_err-value.result c.in_err-value.field-0.0 c.from_residual-in_err-value.ensures c.in_ok-left.ensures c.in_err-value.ensures
