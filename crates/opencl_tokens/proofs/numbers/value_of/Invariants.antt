use Rattle.std.proofs.Common.{◌≡◌, ◌+◌, ◌*◌, drop}
use Rattle.std.specs.Prelude.{fold}
use Rattle.texts.specs.Numbers.{digit_value}
use Rattle.opencl_tokens.specs.Numbers.{base_of, value_of}
use Rattle.opencl_tokens.specs.Seen.{radix}
use Rattle.opencl_tokens.proofs.numbers.value_of.Given as goal

abbrev pub invariant-loop-b : goal.invariant-loop-b
invariant-loop-b l = record {
  times : l.times ≡ base_of (radix l.fn.base);
  value : value_of (radix l.fn.base) l.digits ≡ fold (λ n b. n * base_of (radix l.fn.base) + digit_value b) l.n (drop l.b-index l.digits);
}
