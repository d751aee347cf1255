use Rattle.linear.specs.Forms.{form}
use Rattle.core_code.specs.View.{array, site}
use Rattle.facts.proofs.Unmade.{handed}
use Rattle.path_steps.specs.View.{followed, value, setting as seen}
use Rattle.path_steps.proofs.Accessing.{load_after, load_stops}
use Rattle.path_steps.proofs.accesses.load.Goals as goal

pub returns : goal.returns
returns g c = load_after (seen g.D.Domain c.args.setting.now) (array c.args.array) (site c.args.site) (form c.args.index) (followed c.args.path.now) (followed c.access.new.path) (followed c.element.new.path) value c.element.result c.in_ok-access.ensures c.element.ensures

pub returns-in_err-access : goal.returns-in_err-access
returns-in_err-access g c =
    let k = load_stops (seen g.D.Domain c.args.setting.now) (array c.args.array) (site c.args.site) (form c.args.index) (followed c.args.path.now) c.in_err-access.field-0.0 c.in_err-access.ensures in
    handed c.from_residual.result c.in_err-access.field-0.0 _ _ c.from_residual.ensures k
