use Rattle.std.proofs.Common.{◌≡◌}
use Rattle.std.specs.Prelude.{pos, replicate}
use Rattle.launch.specs.View.{buffer}
use Rattle.machine.proofs.memory.row.Given as goal

abbrev pub invariant-loop-index : goal.invariant-loop-index
invariant-loop-index l = buffer l.words ≡ replicate l._index (pos l.fill)
