use Rattle.std.proofs.Common.{true, false}
use Rattle.path_steps.specs.View.{followed, value, setting as seen}
use Rattle.path_walk.proofs.AtSites.{picks, pick_halts}
use Rattle.path_walk.proofs.operands.smaller_split.Goals as goal

pub returns-then-is_less : goal.returns-then-is_less
returns-then-is_less g c = picks (seen g.D.Domain c.args.setting.now) (value c.args.right) (value c.args.left) (value c.args.right) (value c.args.left) (followed c.args.path.now) (followed c.split.new.path) c.in_ok-is_less.is_less true c.in_ok-is_less.ensures c.if-is_less.true

pub returns-else-is_less : goal.returns-else-is_less
returns-else-is_less g c = picks (seen g.D.Domain c.args.setting.now) (value c.args.right) (value c.args.left) (value c.args.right) (value c.args.left) (followed c.args.path.now) (followed c.split.new.path) c.in_ok-is_less.is_less false c.in_ok-is_less.ensures c.if-is_less.false

pub returns-in_err-is_less : goal.returns-in_err-is_less
returns-in_err-is_less g c =
    pick_halts (seen g.D.Domain c.args.setting.now) (value c.args.right) (value c.args.left) (value c.args.right) (value c.args.left) (followed c.args.path.now) (followed c.split.new.path) value c.from_residual.result c.in_err-is_less.field-0.0 c.from_residual.ensures c.in_err-is_less.ensures
