use Rattle.std.proofs.Common.{rules, SFits, w64}
use Rattle.std.proofs.lemmas.Int.{to_z-of_z}
use Rattle.linear.specs.Forms.{form}
use Rattle.words.specs.View.{kind}
use Rattle.facts.proofs.Unmade.{handed}
use Rattle.path_steps.specs.View.{followed, setting as seen}
use Rattle.path_walk.proofs.BitSteps.{bit_leads, bit_new_stops, bit_unfit_stops, bit_told_stops}
use Rattle.path_walk.proofs.joining.with_bit.Goals as goal

pub returns-in_err-bit : goal.returns-in_err-bit
returns-in_err-bit g c =
    let s = seen g.D.Domain c.args.setting.now in
    let k = kind c.args.kind in
    let x = form c.args.of.now in
    let l = followed c.args.path.now in
    let m = followed c.bit_from.new.path in
    let e = c.in_err-bit.field-0.0 in
    handed c.from_residual.result e _ _ c.from_residual.ensures (bit_new_stops s k x c.args.lowest c.args.number l e c.in_err-bit.ensures.leads)

pub returns-in_err-form : goal.returns-in_err-form
returns-in_err-form g c =
    let s = seen g.D.Domain c.args.setting.now in
    let k = kind c.args.kind in
    let x = form c.args.of.now in
    let l = followed c.args.path.now in
    let m = followed c.bit_from.new.path in
    let z : SFits w64 c.args.number = search rules in
    let e = c.in_err-form.field-0.0 in
    let u = simp to_z-of_z at c.in_err-form.ensures in
    handed c.from_residual-in_err-form.result e _ _ c.from_residual-in_err-form.ensures (bit_unfit_stops s k x c.args.lowest c.args.number (form c.in_ok-bit.bit) l m e c.in_ok-bit.ensures.leads u)

pub returns-in_err-told : goal.returns-in_err-told
returns-in_err-told g c =
    let s = seen g.D.Domain c.args.setting.now in
    let k = kind c.args.kind in
    let x = form c.args.of.now in
    let l = followed c.args.path.now in
    let m = followed c.bit_from.new.path in
    let z : SFits w64 c.args.number = search rules in
    let e = c.in_err-told.field-0.0 in
    let d = simp to_z-of_z at c.in_ok-form.ensures in
    handed c.from_residual-in_err-told.result e _ _ c.from_residual-in_err-told.ensures (bit_told_stops s k x c.args.lowest c.args.number (form c.in_ok-bit.bit) (form c.in_ok-form.form) l m e c.in_ok-bit.ensures.leads d c.in_err-told.ensures)

pub returns : goal.returns
returns g c =
    let s = seen g.D.Domain c.args.setting.now in
    let k = kind c.args.kind in
    let x = form c.args.of.now in
    let l = followed c.args.path.now in
    let m = followed c.bit_from.new.path in
    let z : SFits w64 c.args.number = search rules in
    let d = simp to_z-of_z at c.in_ok-form.ensures in
    bit_leads s k x c.args.lowest c.args.number (form c.in_ok-bit.bit) (form c.in_ok-form.form) l m (followed c.told.new.path) c.in_ok-bit.ensures.leads d c.in_ok-told.ensures
