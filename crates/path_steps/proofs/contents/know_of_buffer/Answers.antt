use Rattle.std.proofs.Common.{◌≡◌, ◌<◌, ◌+◌, length, get_or, subst, arith}
use Rattle.linear.specs.Forms.{form}
use Rattle.facts.proofs.Unmade.{handed}
use Rattle.path_steps.specs.View.{followed, setting as seen}
use Rattle.path_steps.proofs.Each.{each_next, each_stops}
use Rattle.path_steps.proofs.Lines.{all_known, one_known, known_front}
use Rattle.path_steps.proofs.contents.know_of_buffer.Goals as goal

pub loop-bound-preserved : goal.loop-bound-preserved
loop-bound-preserved g c =
    let s = seen g.D.Domain c.args.setting.now in
    let lt = subst (λ xs. c.loop-bound.bound-index < length xs) c.as_slice-bound-items.ensures.value c.loop-bound-test.true in
    let is = subst (λ xs. c.bound-item.result ≡ get_or xs c.loop-bound.bound-index c.bound-item.result) c.as_slice-bound-items.ensures.value c.bound-item.is in
    each_next (all_known s c.args.buffer (form c.args.form.now)) (one_known s c.args.buffer (form c.args.form.now)) (known_front s c.args.buffer (form c.args.form.now)) c.args.setting.now.contents.items c.loop-bound.bound-index c.bound-item.result (followed c.args.path.now) (followed c.loop-bound.path) c.loop-bound.invariant lt is (c.loop-bound.bound-index + 1) (followed c.know_content.new.path) (omega arith) c.in_ok-know_content.ensures

pub returns-in_err-know_content : goal.returns-in_err-know_content
returns-in_err-know_content g c =
    let s = seen g.D.Domain c.args.setting.now in
    let lt = subst (λ xs. c.loop-bound.bound-index < length xs) c.as_slice-bound-items.ensures.value c.loop-bound-test.true in
    let is = subst (λ xs. c.bound-item.result ≡ get_or xs c.loop-bound.bound-index c.bound-item.result) c.as_slice-bound-items.ensures.value c.bound-item.is in
    let k = each_stops (all_known s c.args.buffer (form c.args.form.now)) (one_known s c.args.buffer (form c.args.form.now)) (known_front s c.args.buffer (form c.args.form.now)) c.args.setting.now.contents.items c.loop-bound.bound-index c.bound-item.result (followed c.args.path.now) (followed c.loop-bound.path) c.loop-bound.invariant lt is c.in_err-know_content.field-0.0 c.in_err-know_content.ensures in
    handed c.from_residual.result c.in_err-know_content.field-0.0 _ _ c.from_residual.ensures k
