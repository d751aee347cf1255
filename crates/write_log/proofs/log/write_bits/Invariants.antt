use Rattle.std.proofs.Common.{◌≡◌, map}
use Rattle.words.specs.View.{value_of}
use Rattle.write_log.specs.Written.{put_bits}
use Rattle.write_log.proofs.log.write_bits.Given as goal

abbrev pub invariant-loop-step : goal.invariant-loop-step
invariant-loop-step l = map value_of l.words ≡ put_bits l.stretch l.bits l.step (map value_of l.fn.words)
