use Rattle.std.proofs.Common.{◌≡◌, ◌+◌, drop}
use Rattle.std.specs.List.{position_or_len}
use Rattle.texts.specs.Tokens.{is_line_feed}
use Rattle.opencl_tokens.proofs.pieces.line_len.Given as goal

abbrev pub invariant-loop-i : goal.invariant-loop-i
invariant-loop-i l = position_or_len is_line_feed l.bytes ≡ l.i + position_or_len is_line_feed (drop l.i l.bytes)
