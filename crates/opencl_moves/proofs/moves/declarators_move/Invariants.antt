use Rattle.std.proofs.Common.{◌≡◌, drop, map}
use Rattle.opencl_tree.specs.View.{declarator}
use Rattle.opencl_moves.specs.Moves.{declarators_move}
use Rattle.opencl_moves.proofs.moves.declarators_move.Given as goal

abbrev pub invariant-loop-one : goal.invariant-loop-one
invariant-loop-one l = declarators_move l.name (map declarator (drop l.one-index l.of)) ≡ declarators_move l.name (map declarator l.of)
