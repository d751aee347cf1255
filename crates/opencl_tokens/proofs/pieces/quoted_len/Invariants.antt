use Rattle.std.proofs.Common.{◌≡◌, drop, false}
use Rattle.opencl_tokens.specs.Pieces.{quoted_end}
use Rattle.opencl_tokens.proofs.pieces.quoted_len.Given as goal

abbrev pub invariant-loop-i : goal.invariant-loop-i
invariant-loop-i l = quoted_end l.quote false 1 (drop 1 l.bytes) ≡ quoted_end l.quote l.escaped l.i (drop l.i l.bytes)
