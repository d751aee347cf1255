use Rattle.std.proofs.Common.{◌≡◌, ◌+◌, drop}
use Rattle.opencl_tokens.specs.Numbers.{digits_len}
use Rattle.opencl_tokens.specs.Seen.{radix}
use Rattle.opencl_tokens.proofs.numbers.digits_len.Given as goal

abbrev pub invariant-loop-i : goal.invariant-loop-i
invariant-loop-i l = digits_len (radix l.base) l.bytes ≡ l.i + digits_len (radix l.base) (drop l.i l.bytes)
