use Rattle.std.proofs.Common.{sym, ◌∙◌, rules, SFits, w64}
use Rattle.std.proofs.lemmas.Int.{to_z-of_z}
use Rattle.linear.specs.Exact.{multiple}
use Rattle.linear.specs.Forms.{form}
use Rattle.facts.specs.View.{error_of_form}
use Rattle.facts.proofs.Unmade.{unfit_of, handed}
use Rattle.path_steps.specs.View.{followed, setting as seen}
use Rattle.path_steps.proofs.Exactly.{right_stops, left_stops, new_product}
use Rattle.path_steps.proofs.exact.product.Goals as goal

pub returns-in_err-form : goal.returns-in_err-form
returns-in_err-form g c =
    let left = form c.args.left.now in
    let right = form c.args.right.now in
    let z : SFits w64 c.constant_part.result = search rules in
    let u = unfit_of c.times.result c.in_err-form.field-0.0 (multiple c.constant_part.result left) c.in_err-form.was (simp to_z-of_z at c.times.ensures.too_large) in
    let w = rw c.constant_part.ensures at u in
    let k = right_stops (seen g.D.Domain c.args.setting.now) left.terms right.terms left right (followed c.args.path.now) (error_of_form c.in_err-form.field-0.0) (sym c.is_number.ensures ∙ c.if-is_number.true) w in
    handed c.from_residual.result (error_of_form c.in_err-form.field-0.0) _ _ c.from_residual.ensures k

pub returns-in_err-form-2 : goal.returns-in_err-form-2
returns-in_err-form-2 g c =
    let left = form c.args.left.now in
    let right = form c.args.right.now in
    let z : SFits w64 c.constant_part-then-is_number-2.result = search rules in
    let u = unfit_of c.times-then-is_number-2.result c.in_err-form-2.field-0.0 (multiple c.constant_part-then-is_number-2.result right) c.in_err-form-2.was (simp to_z-of_z at c.times-then-is_number-2.ensures.too_large) in
    let w = rw c.constant_part-then-is_number-2.ensures at u in
    let k = left_stops (seen g.D.Domain c.args.setting.now) left.terms right.terms left right (followed c.args.path.now) (error_of_form c.in_err-form-2.field-0.0) (sym c.is_number.ensures ∙ c.if-is_number.false) (sym c.is_number-2.ensures ∙ c.if-is_number-2.true) w in
    handed c.from_residual-in_err-form-2.result (error_of_form c.in_err-form-2.field-0.0) _ _ c.from_residual-in_err-form-2.ensures k

pub returns : goal.returns
returns g c =
    let left = form c.args.left.now in
    let right = form c.args.right.now in
    let d = c.mul-element.ensures ∙ (λ i. g.D.Domain.mul_of (c.element_at.ensures i) (c.element_at-2.ensures i)) in
    new_product (seen g.D.Domain c.args.setting.now) left.terms right.terms left right (followed c.args.path.now) (followed c.product_in.new.path) c.mul-element.result c.product_in.result (sym c.is_number.ensures ∙ c.if-is_number.false) (sym c.is_number-2.ensures ∙ c.if-is_number-2.false) d c.product_in.ensures
