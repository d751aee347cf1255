use Rattle.std.proofs.Common.{◌≡◌, ◌+◌, drop}
use Rattle.opencl_macros.specs.Reading.{text_length}
use Rattle.opencl_macros.specs.Seen.{tokens_seen}
use Rattle.opencl_macros.proofs.reading.text_length.Given as goal

abbrev pub invariant-loop-i : goal.invariant-loop-i
invariant-loop-i l = text_length (tokens_seen l.tokens) ≡ l.i + text_length (tokens_seen (drop l.i l.tokens))
