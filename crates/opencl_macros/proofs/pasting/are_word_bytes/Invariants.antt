use Rattle.std.proofs.Common.{◌≡◌, drop}
use Rattle.lines.specs.Identifiers.{all_word_bytes}
use Rattle.opencl_macros.proofs.pasting.are_word_bytes.Given as goal

abbrev pub invariant-loop-b : goal.invariant-loop-b
invariant-loop-b l = all_word_bytes l.bytes ≡ all_word_bytes (drop l.b-index l.bytes)
