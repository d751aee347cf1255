use Rattle.words.specs.View.{kind}
use Rattle.core_code.specs.View.{array}
use Rattle.facts.proofs.Unmade.{handed}
use Rattle.path_steps.specs.View.{followed, value, setting as seen}
use Rattle.path_steps.proofs.Accessing.{element_leads, unknown_refused, element_stops}
use Rattle.path_steps.proofs.accesses.element.Goals as goal

pub returns : goal.returns
returns g c = element_leads (seen g.D.Domain c.args.setting.now) (array c.args.array) (kind c.array_kind.result) (value c.in_ok-value.value) (followed c.args.path.now) (followed c.unknown.new.path) (followed c.know_contents.new.path) c.array_kind.ensures c.in_ok-value.ensures c.in_ok-know_contents.ensures

pub returns-in_err-value : goal.returns-in_err-value
returns-in_err-value g c =
    let k = unknown_refused (seen g.D.Domain c.args.setting.now) (array c.args.array) (kind c.array_kind.result) (followed c.args.path.now) c.in_err-value.field-0.0 c.array_kind.ensures c.in_err-value.ensures in
    handed c.from_residual.result c.in_err-value.field-0.0 _ _ c.from_residual.ensures k

pub returns-in_err-know_contents : goal.returns-in_err-know_contents
returns-in_err-know_contents g c =
    let k = element_stops (seen g.D.Domain c.args.setting.now) (array c.args.array) (kind c.array_kind.result) (value c.in_ok-value.value) (followed c.args.path.now) (followed c.unknown.new.path) c.in_err-know_contents.field-0.0 c.array_kind.ensures c.in_ok-value.ensures c.in_err-know_contents.ensures in
    handed c.from_residual-in_err-know_contents.result c.in_err-know_contents.field-0.0 _ _ c.from_residual-in_err-know_contents.ensures k
