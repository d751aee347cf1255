use Rattle.std.proofs.Common.{◌≡◌, ◌∙◌, ◌+◌, ◌-◌, ap, sym, subst, arith}
use Rattle.std.specs.Prelude.{pos, negsuc}
use Rattle.linear.specs.Exact.{sum, fits}
use Rattle.linear.specs.Forms.{form}
use Rattle.facts.specs.Symbols.{constant, minus}
use Rattle.facts.specs.Refusals.{IsUnfit}
use Rattle.facts.proofs.Unmade.{handed}
use Rattle.arrival_claims.proofs.Large.{less_by_two, unfit_by_two, unfit_by}
use Rattle.arrival_claims.proofs.progress.less_large.Goals as goal

pub returns-in_err-less : goal.returns-in_err-less
returns-in_err-less c =
    let f = form c.args.of.now in
    let e = c.in_err-less.field-0.0 in
    let n = c.args.number - 9223372036854775808 in
    let same : n + 9223372036854775808 ≡ c.args.number = omega (arith, c.requires) in
    let k = unfit_by e (minus f (constant (pos n))) (minus f (constant (pos c.args.number))) (λ h. ap (λ m. fits (minus f (constant (pos m)))) (sym same) ∙ unfit_by_two f n c.args.of.now.constant_in_range h) c.in_err-less.ensures in
    handed c.from_residual.result e _ _ c.from_residual.ensures k

pub returns-in_err-form : goal.returns-in_err-form
returns-in_err-form c =
    let f = form c.args.of.now in
    let e = c.in_err-form.field-0.0 in
    let n = c.args.number - 9223372036854775808 in
    let same : n + 9223372036854775808 ≡ c.args.number = omega (arith, c.requires) in
    let whole = ap (λ g. sum g (constant (negsuc 9223372036854775807))) c.in_ok-less.ensures ∙ less_by_two f n ∙ ap (λ m. minus f (constant (pos m))) same in
    handed c.from_residual-in_err-form.result e _ _ c.from_residual-in_err-form.ensures (subst (IsUnfit e) whole c.in_err-form.ensures)

pub returns : goal.returns
returns c =
    let f = form c.args.of.now in
    let n = c.args.number - 9223372036854775808 in
    let same : n + 9223372036854775808 ≡ c.args.number = omega (arith, c.requires) in
    c.in_ok-form.ensures ∙ ap (λ g. sum g (constant (negsuc 9223372036854775807))) c.in_ok-less.ensures ∙ less_by_two f n ∙ ap (λ m. minus f (constant (pos m))) same
