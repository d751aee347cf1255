use Rattle.std.proofs.Common.{◌≡◌, ℕ}
use Rattle.write_log.specs.Written.{written, noted, read_words}
use Rattle.write_log.proofs.log.WriteLog.note_each.Given as goal

abbrev pub invariant-loop-place : goal.invariant-loop-place
invariant-loop-place l = (b i : ℕ) → written l.self b i ≡ noted l.fn.buffer l.fn.first (read_words l.fn.kind l.fn.bits) l.place b i (written l.fn.self b i)
