use Rattle.std.proofs.Common.{◌≡◌, length}
use Rattle.write_log.specs.Elements.{border, first_entries}
use Rattle.write_log.specs.Written.{put_all, words_of}
use Rattle.write_log.proofs.log.write_list.Given as goal

abbrev pub invariant-loop-number : goal.invariant-loop-number
invariant-loop-number l = words_of l.buffers ≡ put_all (first_entries l.list.stretches.items l.list.bits.items (border l.list.stretches.items (length l.list.bits.items) l.number)) (words_of l.fn.buffers)
