use Rattle.std.proofs.Common.{◌≡◌, ◌+◌, drop}
use Rattle.opencl_tokens.specs.Pieces.{number_len}
use Rattle.opencl_tokens.proofs.pieces.number_len.Given as goal

abbrev pub invariant-loop-i : goal.invariant-loop-i
invariant-loop-i l = number_len 0 l.bytes ≡ l.i + number_len l.before (drop l.i l.bytes)
