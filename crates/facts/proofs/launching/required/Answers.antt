use Rattle.std.proofs.Common.{◌<◌, ◌≤◌, ◌*◌, ◌^◌, arith}
use Rattle.linear.specs.Forms.{form}
use Rattle.linear.specs.Sizes.{size}
use Rattle.linear.proofs.Sizes.{size_difference}
use Rattle.facts.specs.Symbols.{minus}
use Rattle.facts.specs.View.{error_of_form}
use Rattle.facts.proofs.Unmade.{memory_of, handed, if_some}
use Rattle.facts.proofs.launching.required.Goals as goal

pub returns-in_err-form : goal.returns-in_err-form
returns-in_err-form c =
    let left = form c.in-Some.left in
    let right = form c.in-Some-2.right in
    let f = minus left right in
    let n : size left ≤ 8 * 4294967295 = if_some c.in_ok-left.field-0 c.in-Some.left (λ g. size (form g) ≤ 8 * 4294967295) c.in-Some.is c.in_ok-left.ensures.small in
    let m : size right ≤ 8 * 4294967295 = if_some c.in_ok-right.field-0 c.in-Some-2.right (λ g. size (form g) ≤ 8 * 4294967295) c.in-Some-2.is c.in_ok-right.ensures.small in
    let l : size f < 2 ^ 63 = omega (arith, size_difference left right, n, m) in
    let k = memory_of c.sub.result c.in_err-form.field-0.0 f c.in_err-form.was c.sub.ensures.too_large l in
    handed c.from_residual-in_err-form.result (error_of_form c.in_err-form.field-0.0) _ _ c.from_residual-in_err-form.ensures k
