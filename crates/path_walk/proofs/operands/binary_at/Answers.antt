use Rattle.words.specs.View.{kind}
use Rattle.core_code.specs.View.{site, operator}
use Rattle.path_steps.specs.View.{followed, value, setting as seen}
use Rattle.path_walk.proofs.AtSites.{both_stop, binary_leads, binary_stops}
use Rattle.path_walk.proofs.operands.binary_at.Goals as goal

pub returns : goal.returns
returns g c = binary_leads (seen g.D.Domain c.args.setting.now) (operator c.args.operation.operator) (kind c.args.operation.kind) (site c.args.operation.site) (value c.args.left) (value c.args.right) (value c.in_ok-first.first) (value c.in_ok-first.second) (followed c.args.path.now) (followed c.stand_at.new.path) (followed c.both_brought.new.path) (followed c.binary.new.path) (value c.in_ok-value.value) c.stand_at.ensures c.in_ok-first.ensures c.in_ok-value.ensures

pub returns-in_err-first : goal.returns-in_err-first
returns-in_err-first g c =
    both_stop (seen g.D.Domain c.args.setting.now) (operator c.args.operation.operator) (kind c.args.operation.kind) (site c.args.operation.site) (value c.args.left) (value c.args.right) (followed c.args.path.now) (followed c.stand_at.new.path) (followed c.both_brought.new.path) value c.from_residual.result c.in_err-first.field-0.0 c.stand_at.ensures c.from_residual.ensures c.in_err-first.ensures

pub returns-in_err-value : goal.returns-in_err-value
returns-in_err-value g c =
    binary_stops (seen g.D.Domain c.args.setting.now) (operator c.args.operation.operator) (kind c.args.operation.kind) (site c.args.operation.site) (value c.args.left) (value c.args.right) (value c.in_ok-first.first) (value c.in_ok-first.second) (followed c.args.path.now) (followed c.stand_at.new.path) (followed c.both_brought.new.path) (followed c.binary.new.path) value c.from_residual-in_err-value.result c.in_err-value.field-0.0 c.stand_at.ensures c.from_residual-in_err-value.ensures c.in_ok-first.ensures c.in_err-value.ensures
