use Rattle.std.proofs.Common.{◌≡◌, drop}
use Rattle.lines.specs.Identifiers.{all_word_bytes}
use Rattle.opencl_reading.proofs.defines.is_alone.Given as goal

abbrev pub invariant-loop-b : goal.invariant-loop-b
invariant-loop-b l = all_word_bytes l.line ≡ all_word_bytes (drop l.b-index l.line)
