use Rattle.std.proofs.Common.{◌≡◌, ap, ◌<◌, ◌≤◌, ◌^◌, arith}
use Rattle.std.proofs.lemmas.Grind.{common_steps}
use Rattle.linear.specs.Forms.{form}
use Rattle.linear.specs.Exact.{sum}
use Rattle.linear.specs.Sizes.{size}
use Rattle.linear.proofs.Sizes.{size_sum}
use Rattle.facts.specs.View.{error_of_form}
use Rattle.facts.proofs.Unmade.{memory_of, handed, if_some}
use Rattle.facts.proofs.launching.sum_form.Goals as goal

pub returns-in_err-total-clause-exact : goal.returns-in_err-total-clause-exact
returns-in_err-total-clause-exact c =
    let total = form c.loop-summand.total in
    let one = form c.in-Some.form in
    let f = sum total one in
    let n : size one ≤ 4294967295 = if_some c.in_ok-form.field-0 c.in-Some.form (λ g. size (form g) ≤ 4294967295) c.in-Some.is c.in_ok-form.ensures.small in
    let l : size f < 2 ^ 63 = omega (arith, size_sum total one, c.loop-summand.invariant.small, n, c.loop-summand-test.true, c.as_slice-summand-items.ensures.len, c.args.sum.now.few) in
    let k = memory_of c.add.result c.in_err-total.field-0.0 f c.in_err-total.was c.add.ensures.too_large l in
    handed c.from_residual-in_err-total.result (error_of_form c.in_err-total.field-0.0) _ _ c.from_residual-in_err-total.ensures k

pub loop-summand-preserved : goal.loop-summand-preserved
loop-summand-preserved c =
    let total = form c.loop-summand.total in
    let one = form c.in-Some.form in
    let n : size one ≤ 4294967295 = if_some c.in_ok-form.field-0 c.in-Some.form (λ g. size (form g) ≤ 4294967295) c.in-Some.is c.in_ok-form.ensures.small in
    let e : size (form c.in_ok-total.total) ≡ size (sum total one) = ap size c.in_ok-total.ensures.exact in
    record {
      same = grind (arith, common_steps);
      small = omega (arith, e, size_sum total one, c.loop-summand.invariant.small, n);
    }
