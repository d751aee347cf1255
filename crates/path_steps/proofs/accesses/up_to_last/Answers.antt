use Rattle.linear.specs.Forms.{form}
use Rattle.facts.specs.Symbols.{minus}
use Rattle.path_steps.specs.View.{followed, setting as seen}
use Rattle.facts.specs.View.{error_of_form}
use Rattle.facts.proofs.Unmade.{unfit_of, handed}
use Rattle.path_steps.proofs.Accessing.{last_steps, room_stops, index_stops, end_stops}
use Rattle.path_steps.proofs.accesses.up_to_last.Goals as goal

pub returns : goal.returns
returns g c =
    last_steps (seen g.D.Domain c.args.setting.now) (form c.args.last.now) (form c.args.index.now) (form c.in_ok-from_zero.from_zero) (form c.in_ok-room.room) (followed c.args.path.now) (followed c.claim_form.new.path) (followed c.claim_form-2.new.path) c.in_ok-from_zero.ensures c.in_ok-room.ensures.exact c.in_ok-claim_form.ensures c.in_ok-claim_form-2.ensures

pub returns-in_err-room : goal.returns-in_err-room
returns-in_err-room g c =
    let u = unfit_of c.sub.result c.in_err-room.field-0.0 (minus (form c.args.last.now) (form c.args.index.now)) c.in_err-room.was c.sub.ensures.too_large in
    let k = room_stops (seen g.D.Domain c.args.setting.now) (form c.args.last.now) (form c.args.index.now) (followed c.args.path.now) (error_of_form c.in_err-room.field-0.0) u in
    handed c.from_residual.result (error_of_form c.in_err-room.field-0.0) _ _ c.from_residual.ensures k

pub returns-in_err-claim_form : goal.returns-in_err-claim_form
returns-in_err-claim_form g c =
    let k = index_stops (seen g.D.Domain c.args.setting.now) (form c.args.last.now) (form c.args.index.now) (form c.in_ok-from_zero.from_zero) (followed c.args.path.now) c.in_err-claim_form.field-0.0 c.in_ok-from_zero.ensures c.in_err-claim_form.ensures in
    handed c.from_residual-in_err-claim_form.result c.in_err-claim_form.field-0.0 _ _ c.from_residual-in_err-claim_form.ensures k

pub returns-in_err-claim_form-2 : goal.returns-in_err-claim_form-2
returns-in_err-claim_form-2 g c =
    let k = end_stops (seen g.D.Domain c.args.setting.now) (form c.args.last.now) (form c.args.index.now) (form c.in_ok-from_zero.from_zero) (form c.in_ok-room.room) (followed c.args.path.now) (followed c.claim_form.new.path) c.in_err-claim_form-2.field-0.0 c.in_ok-from_zero.ensures c.in_ok-room.ensures.exact c.in_ok-claim_form.ensures c.in_err-claim_form-2.ensures in
    handed c.from_residual-in_err-claim_form-2.result c.in_err-claim_form-2.field-0.0 _ _ c.from_residual-in_err-claim_form-2.ensures k
