use Rattle.words.specs.View.{kind}
use Rattle.core_code.specs.View.{array, site}
use Rattle.facts.proofs.Unmade.{handed}
use Rattle.path_steps.specs.View.{followed, value, setting as seen}
use Rattle.path_steps.proofs.Accessing.{store_after, store_stops}
use Rattle.path_steps.proofs.accesses.stored.Goals as goal

pub returns : goal.returns
returns g c = store_after (seen g.D.Domain c.args.setting.now) (array c.args.array) (site c.args.site) (value c.args.index) (value c.args.value) (kind c.array_kind-kind.result) (followed c.args.path.now) (followed c.keep_contents.new.path) (followed c.access.new.path) c.access.result c.array_kind-kind.ensures c.in_ok-keep_contents.ensures c.access.ensures

pub returns-in_err-keep_contents : goal.returns-in_err-keep_contents
returns-in_err-keep_contents g c =
    let k = store_stops (seen g.D.Domain c.args.setting.now) (array c.args.array) (site c.args.site) (value c.args.index) (value c.args.value) (kind c.array_kind-kind.result) (followed c.args.path.now) c.in_err-keep_contents.field-0.0 c.array_kind-kind.ensures c.in_err-keep_contents.ensures in
    handed c.from_residual.result c.in_err-keep_contents.field-0.0 _ _ c.from_residual.ensures k
