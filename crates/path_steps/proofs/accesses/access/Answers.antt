use Rattle.linear.specs.Forms.{form}
use Rattle.core_code.specs.View.{array, site}
use Rattle.facts.proofs.Unmade.{handed}
use Rattle.path_steps.specs.View.{followed, spot, setting as seen}
use Rattle.path_steps.proofs.Accessing.{access_steps, access_stops}
use Rattle.path_steps.proofs.accesses.access.Goals as goal

pub returns : goal.returns
returns g c = access_steps (seen g.D.Domain c.args.setting.now) c.args.is_store (array c.args.array) (site c.args.site) (form c.args.index) (spot c.spot_at-place.result) (spot c.spot_at-spot.result) (followed c.args.path.now) (followed c.stand.new.self) (followed c.in_array.new.path) (followed c.touch.new.self) c.spot_at-place.ensures c.stand.ensures c.in_ok-in_array.ensures c.spot_at-spot.ensures c.in_ok-touch.ensures

pub returns-in_err-in_array : goal.returns-in_err-in_array
returns-in_err-in_array g c =
    let k = access_stops (seen g.D.Domain c.args.setting.now) c.args.is_store (array c.args.array) (site c.args.site) (form c.args.index) (spot c.spot_at-place.result) (followed c.args.path.now) (followed c.stand.new.self) c.in_err-in_array.field-0.0 c.spot_at-place.ensures c.stand.ensures c.in_err-in_array.ensures in
    handed c.from_residual.result c.in_err-in_array.field-0.0 _ _ c.from_residual.ensures k
