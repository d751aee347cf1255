use Rattle.std.proofs.Common.{◌≡◌}
use Rattle.write_log.specs.Written.{put_all, words_of}
use Rattle.write_log.proofs.log.write_map.Given as goal

abbrev pub invariant-loop-at : goal.invariant-loop-at
invariant-loop-at l = put_all l.at-iterator (words_of l.buffers) ≡ put_all l.fn.map.entries (words_of l.fn.buffers)
