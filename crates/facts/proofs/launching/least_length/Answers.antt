use Rattle.std.proofs.Common.{◌≡◌, ◌<◌, ◌≤◌, ◌*◌, ◌^◌, arith, ap}
use Rattle.linear.specs.Forms.{form}
use Rattle.linear.specs.Sizes.{size}
use Rattle.linear.proofs.Sizes.{size_difference}
use Rattle.facts.specs.Symbols.{minus}
use Rattle.facts.specs.View.{error_of_form}
use Rattle.facts.proofs.Unmade.{memory_of, handed, if_some}
use Rattle.facts.proofs.launching.least_length.Goals as goal

pub returns-in_err-low : goal.returns-in_err-low
returns-in_err-low c =
    let elements = form c.in_ok-once_length.field-0 in
    let least = form c.in-Some.sum in
    let f = minus elements least in
    let n : size elements ≡ 1 = ap size c.in_ok-once_length.ensures in
    let m : size least ≤ 8 * 4294967295 = if_some c.in_ok-sum.field-0 c.in-Some.sum (λ g. size (form g) ≤ 8 * 4294967295) c.in-Some.is c.in_ok-sum.ensures.small in
    let l : size f < 2 ^ 63 = omega (arith, n, size_difference elements least, m) in
    let k = memory_of c.sub.result c.in_err-low.field-0.0 f c.in_err-low.was c.sub.ensures.too_large l in
    handed c.from_residual-in_err-low.result (error_of_form c.in_err-low.field-0.0) _ _ c.from_residual-in_err-low.ensures k
