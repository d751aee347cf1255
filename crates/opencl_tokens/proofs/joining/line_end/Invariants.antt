use Rattle.std.proofs.Common.{◌≡◌, ◌+◌, drop}
use Rattle.opencl_tokens.specs.Joining.{line_end}
use Rattle.opencl_tokens.proofs.joining.line_end.Given as goal

abbrev pub invariant-loop-i : goal.invariant-loop-i
invariant-loop-i l = line_end l.at l.bytes ≡ line_end (l.at + l.i) (drop l.i l.bytes)
