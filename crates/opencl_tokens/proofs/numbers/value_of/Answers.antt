use Rattle.std.proofs.Common.{◌*◌, ap, arith}
use Rattle.opencl_tokens.specs.Seen.{radix}
use Rattle.opencl_tokens.proofs.Values.{grows_at}
use Rattle.opencl_tokens.proofs.numbers.value_of.Goals as goal

pub returns-in_default : goal.returns-in_default
returns-in_default c =
    omega (
      arith,
      c.loop-b.invariant.value,
      ap (λ k. c.loop-b.n * k) c.loop-b.invariant.times,
      c.in_default.ensures,
      grows_at
          (radix c.args.base) c.args.digits.now c.loop-b.b-index c.loop-b.n c.loop-b-test.true,
    )

pub returns-in_default-checked_add : goal.returns-in_default-checked_add
returns-in_default-checked_add c =
    omega (
      arith,
      c.loop-b.invariant.value,
      ap (λ k. c.loop-b.n * k) c.loop-b.invariant.times,
      c.in-Some.ensures,
      c.from.ensures,
      c.digit_value.ensures,
      c.in_default-checked_add.ensures,
      grows_at (radix c.args.base) c.args.digits.now c.loop-b.b-index c.loop-b.n
          c.loop-b-test.true,
    )
