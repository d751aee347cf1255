use Rattle.std.proofs.Common.{◌≡◌, drop}
use Rattle.opencl_tree.specs.View.{expressions}
use Rattle.opencl_moves.specs.Moves.{any_moves}
use Rattle.opencl_moves.proofs.moves.+moving.Given as goal

abbrev pub invariant-any_moves-loop-one : goal.invariant-any_moves-loop-one
invariant-any_moves-loop-one l = any_moves l.name (expressions (drop l.one-index l.of)) ≡ any_moves l.name (expressions l.of)
