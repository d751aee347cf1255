use Rattle.words.specs.View.{kind}
use Rattle.core_code.specs.View.{site, unary_operator}
use Rattle.walk_trees.specs.Operators.{unary}
use Rattle.path_steps.specs.View.{followed, value, setting as seen}
use Rattle.path_walk.proofs.AtSites.{site_leads, site_stops}
use Rattle.path_walk.proofs.operands.unary_at.Goals as goal

pub returns : goal.returns
returns g c =
    let s = seen g.D.Domain c.args.setting.now in
    site_leads (unary s (unary_operator c.args.operator) (kind c.args.kind) (value c.args.of)) (site c.args.site) (followed c.args.path.now) (followed c.stand_at.new.path) (followed c.unary.new.path) c.stand_at.ensures (value c.in_ok-value.value) c.in_ok-value.ensures

pub returns-in_err-value : goal.returns-in_err-value
returns-in_err-value g c =
    let s = seen g.D.Domain c.args.setting.now in
    site_stops (unary s (unary_operator c.args.operator) (kind c.args.kind) (value c.args.of)) (site c.args.site) (followed c.args.path.now) (followed c.stand_at.new.path) (followed c.unary.new.path) c.stand_at.ensures value c.from_residual.result c.in_err-value.field-0.0 c.from_residual.ensures c.in_err-value.ensures
