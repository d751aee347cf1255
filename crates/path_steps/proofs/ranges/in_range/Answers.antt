use Rattle.linear.specs.Forms.{form}
use Rattle.path_steps.specs.View.{followed, setting as seen}
use Rattle.words.specs.View.{kind}
use Rattle.path_steps.proofs.Refusing.{low_stops, high_stops, first_stops, second_stops}
use Rattle.facts.proofs.Unmade.{handed}
use Rattle.path_steps.proofs.Leading.{range_steps}
use Rattle.path_steps.proofs.ranges.in_range.Goals as goal

pub returns : goal.returns
returns g c = range_steps (seen g.D.Domain c.args.setting.now) c.args.needed (kind c.args.kind) (form c.args.form.now) (form c.in_ok-low.low) (form c.in_ok-high.high) (followed c.args.path.now) (followed c.claim_form.new.path) (followed c.claim_form-2.new.path) c.in_ok-low.ensures c.in_ok-high.ensures c.in_ok-claim_form.ensures c.in_ok-claim_form-2.ensures

pub returns-in_err-low : goal.returns-in_err-low
returns-in_err-low g c =
    let k = low_stops (seen g.D.Domain c.args.setting.now) c.args.needed (kind c.args.kind) (form c.args.form.now) (followed c.args.path.now) c.in_err-low.field-0.0 c.in_err-low.ensures in
    handed c.from_residual.result c.in_err-low.field-0.0 _ _ c.from_residual.ensures k

pub returns-in_err-high : goal.returns-in_err-high
returns-in_err-high g c =
    let k = high_stops (seen g.D.Domain c.args.setting.now) c.args.needed (kind c.args.kind) (form c.args.form.now) (followed c.args.path.now) c.in_err-high.field-0.0 c.in_err-high.ensures in
    handed c.from_residual-in_err-high.result c.in_err-high.field-0.0 _ _ c.from_residual-in_err-high.ensures k

pub returns-in_err-claim_form : goal.returns-in_err-claim_form
returns-in_err-claim_form g c =
    let k = first_stops (seen g.D.Domain c.args.setting.now) c.args.needed (kind c.args.kind) (form c.args.form.now) (form c.in_ok-low.low) (followed c.args.path.now) c.in_err-claim_form.field-0.0 c.in_ok-low.ensures c.in_err-claim_form.ensures in
    handed c.from_residual-in_err-claim_form.result c.in_err-claim_form.field-0.0 _ _ c.from_residual-in_err-claim_form.ensures k

pub returns-in_err-claim_form-2 : goal.returns-in_err-claim_form-2
returns-in_err-claim_form-2 g c =
    let k = second_stops (seen g.D.Domain c.args.setting.now) c.args.needed (kind c.args.kind) (form c.args.form.now) (form c.in_ok-low.low) (form c.in_ok-high.high) (followed c.args.path.now) (followed c.claim_form.new.path) c.in_err-claim_form-2.field-0.0 c.in_ok-low.ensures c.in_ok-high.ensures c.in_ok-claim_form.ensures c.in_err-claim_form-2.ensures in
    handed c.from_residual-in_err-claim_form-2.result c.in_err-claim_form-2.field-0.0 _ _ c.from_residual-in_err-claim_form-2.ensures k
