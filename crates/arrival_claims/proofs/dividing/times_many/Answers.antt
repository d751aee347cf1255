use Rattle.std.proofs.Common.{◌≡◌, ◌∙◌, sym, ap, subst, arith}
use Rattle.std.specs.Prelude.{pos}
use Rattle.linear.specs.Exact.{fits, multiple}
use Rattle.linear.specs.Forms.{form}
use Rattle.facts.specs.Refusals.{IsUnfit}
use Rattle.facts.proofs.Unmade.{handed}
use Rattle.arrival_claims.proofs.Large.{half_unfit, twice_half, more_unfit, unfit_by}
use Rattle.arrival_claims.proofs.dividing.times_many.Goals as goal

pub returns-then-number : goal.returns-then-number
returns-then-number c = more_unfit c.args.number (form c.args.form.now) c.if-number.true c.args.form.now.rising (c.is_nothing.ensures.other c.if-is_nothing.false)

pub returns-in_err-half : goal.returns-in_err-half
returns-in_err-half c =
    let f = form c.args.form.now in
    let e = c.in_err-half.field-0.0 in
    let same : c.args.number ≡ 9223372036854775808 = omega (arith, c.requires, c.if-number.false) in
    let k = unfit_by e (multiple (pos 4611686018427387904) f) (multiple (pos c.args.number) f) (λ h. ap (λ m. fits (multiple (pos m) f)) same ∙ half_unfit f h) c.in_err-half.ensures in
    handed c.from_residual.result e _ _ c.from_residual.ensures k

pub returns-in_err-product : goal.returns-in_err-product
returns-in_err-product c =
    let f = form c.args.form.now in
    let e = c.in_err-product.field-0.0 in
    let same : c.args.number ≡ 9223372036854775808 = omega (arith, c.requires, c.if-number.false) in
    let whole = ap (multiple (pos 2)) c.in_ok-half.ensures ∙ twice_half f ∙ ap (λ m. multiple (pos m) f) (sym same) in
    handed c.from_residual-in_err-product.result e _ _ c.from_residual-in_err-product.ensures (subst (IsUnfit e) whole c.in_err-product.ensures)

pub returns : goal.returns
returns c =
    let f = form c.args.form.now in
    let same : c.args.number ≡ 9223372036854775808 = omega (arith, c.requires, c.if-number.false) in
    c.in_ok-product.ensures ∙ ap (multiple (pos 2)) c.in_ok-half.ensures ∙ twice_half f ∙ ap (λ m. multiple (pos m) f) (sym same)
