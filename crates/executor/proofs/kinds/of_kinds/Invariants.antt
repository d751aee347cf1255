use Rattle.std.proofs.Common.{◌≡◌, ◌++◌, map, drop}
use Rattle.words.specs.View.{kind}
use Rattle.launch.specs.View.{buffer}
use Rattle.executor.specs.Kinds.{words, of_kinds}
use Rattle.executor.proofs.kinds.of_kinds.Given as goal

abbrev pub invariant-loop-row : goal.invariant-loop-row
invariant-loop-row l = map words l.words.items ++ of_kinds (map kind l.left) (map buffer (drop l.row-index l.row-items)) ≡ of_kinds (map kind l.fn.kinds) (map buffer l.row-items)
