use Rattle.linear.specs.Forms.{form}
use Rattle.path_steps.specs.View.{followed, value, setting as seen}
use Rattle.path_steps.proofs.Refusing.{kept_stops, range_stops, wrapped}
use Rattle.facts.proofs.Unmade.{handed}
use Rattle.path_steps.proofs.ranges.ranged_uint.Goals as goal

pub returns : goal.returns
returns g c = wrapped (seen g.D.Domain c.args.setting.now) c.in_ok-kept.kept (form c.args.form) (followed c.args.path.now) (followed c.in_range.new.path) (followed c.unknown.new.path) value c.unknown.result c.in_ok-kept.ensures c.if-kept.false c.in_ok-in_range.ensures c.unknown.ensures

pub returns-in_err-kept : goal.returns-in_err-kept
returns-in_err-kept g c =
    let k = kept_stops (seen g.D.Domain c.args.setting.now) (form c.args.form) (followed c.args.path.now) c.in_err-kept.field-0.0 c.in_err-kept.ensures in
    handed c.from_residual.result c.in_err-kept.field-0.0 _ _ c.from_residual.ensures k

pub returns-in_err-in_range : goal.returns-in_err-in_range
returns-in_err-in_range g c =
    let k = range_stops (seen g.D.Domain c.args.setting.now) c.in_ok-kept.kept (form c.args.form) (followed c.args.path.now) c.in_err-in_range.field-0.0 c.in_ok-kept.ensures c.in_err-in_range.ensures in
    handed c.from_residual-in_err-in_range.result c.in_err-in_range.field-0.0 _ _ c.from_residual-in_err-in_range.ensures k
