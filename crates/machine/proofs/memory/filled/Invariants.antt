use Rattle.std.proofs.Common.{◌≡◌, map, take}
use Rattle.std.specs.Prelude.{pos, replicate}
use Rattle.launch.specs.View.{buffer}
use Rattle.core_code.specs.declared.tree.LocalArray.{LocalArray}
use Rattle.machine.proofs.memory.filled.Given as goal

abbrev pub invariant-loop-array : goal.invariant-loop-array
invariant-loop-array l = map buffer l.words.items ≡ map (λ (a : LocalArray). replicate a.length (pos l.fill)) (take l.array-index l.arrays)
