use Rattle.std.proofs.Common.{◌≡◌, drop}
use Rattle.opencl_macros.specs.Reading.{read}
use Rattle.opencl_macros.specs.Seen.{tokens_seen}
use Rattle.opencl_macros.specs.SeenReading.{state}
use Rattle.opencl_macros.proofs.reading.read.Given as goal

abbrev pub invariant-loop-at : goal.invariant-loop-at
invariant-loop-at l = read l.skip (state l.s) (tokens_seen (drop l.at l.tokens)) ≡ read 0 (state l.initial.s) (tokens_seen l.tokens)
