use Rattle.std.proofs.Common.{◌≡◌, map}
use Rattle.std.specs.Prelude.{pos, replicate}
use Rattle.core_code.specs.declared.tree.LocalArray.{LocalArray}
use Rattle.write_log.specs.Written.{words_of}
use Rattle.machine.proofs.memory.all_filled.Given as goal

abbrev pub invariant-loop-group : goal.invariant-loop-group
invariant-loop-group l = map words_of l.all.items ≡ replicate l._group (map (λ (a : LocalArray). replicate a.length (pos l.fill)) l.arrays)
