use Rattle.std.proofs.Common.{◌≡◌, map, take}
use Rattle.launch.specs.View.{buffer}
use Rattle.machine.proofs.memory.copy.Given as goal

abbrev pub invariant-loop-row : goal.invariant-loop-row
invariant-loop-row l = map buffer l.words.items ≡ map buffer (take l.row-index l.row-items)
