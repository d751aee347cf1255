use Rattle.std.proofs.Common.{rules, ap, ◌∙◌, ◌^◌, SFits, w64}
use Rattle.std.specs.Prelude.{pos, ◌+ℤ◌, int_div}
use Rattle.std.proofs.lemmas.Int.{to_z-of_z}
use Rattle.linear.specs.Forms.{form}
use Rattle.words.specs.View.{kind}
use Rattle.facts.proofs.Unmade.{handed}
use Rattle.path_steps.specs.View.{followed, setting as seen}
use Rattle.path_walk.proofs.BitSteps.{run_stops, run_says}
use Rattle.path_walk.proofs.meeting.left_run.Goals as goal

pub returns-in_err-bits : goal.returns-in_err-bits
returns-in_err-bits g c =
    let n : SFits w64 c.args.number = search rules in
    let z : SFits w64 c.run_width.result = search rules in
    let b = pos (2 ^ c.args.lowest) in
    let d = to_z-of_z w64 c.run_width.result z ∙ c.run_width.ensures.exact ∙ ap (λ m. int_div (m +ℤ b) b) (to_z-of_z w64 c.args.number n) in
    let k = run_stops (seen g.D.Domain c.args.setting.now) (kind c.args.kind) (form c.args.above.now) c.args.lowest c.args.number _ (followed c.args.path.now) c.in_err-bits.field-0.0 d c.in_err-bits.ensures.leads in
    handed c.from_residual.result c.in_err-bits.field-0.0 _ _ c.from_residual.ensures k

pub returns : goal.returns
returns g c =
    let n : SFits w64 c.args.number = search rules in
    let z : SFits w64 c.run_width.result = search rules in
    let b = pos (2 ^ c.args.lowest) in
    let d = to_z-of_z w64 c.run_width.result z ∙ c.run_width.ensures.exact ∙ ap (λ m. int_div (m +ℤ b) b) (to_z-of_z w64 c.args.number n) in
    run_says (seen g.D.Domain c.args.setting.now) (kind c.args.kind) (form c.args.above.now) c.args.lowest c.args.number _ (form c.in_ok-bits.bits) (followed c.args.path.now) (followed c.name_left.new.path) c.at_place.result d c.in_ok-bits.ensures.leads c.at_place.ensures
