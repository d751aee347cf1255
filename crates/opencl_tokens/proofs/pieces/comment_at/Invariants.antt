use Rattle.std.proofs.Common.{◌≡◌, drop}
use Rattle.texts.specs.Tokens.{comment_end}
use Rattle.opencl_tokens.proofs.pieces.comment_at.Given as goal

abbrev pub invariant-loop-i : goal.invariant-loop-i
invariant-loop-i l = comment_end 2 (drop 2 l.bytes) ≡ comment_end l.i (drop l.i l.bytes)
