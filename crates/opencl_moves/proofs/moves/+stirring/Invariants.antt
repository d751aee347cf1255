use Rattle.std.proofs.Common.{◌≡◌, drop}
use Rattle.opencl_tree.specs.View.{statements}
use Rattle.opencl_moves.specs.Moves.{moves_among}
use Rattle.opencl_moves.proofs.moves.+stirring.Given as goal

abbrev pub invariant-moves_among-loop-statement : goal.invariant-moves_among-loop-statement
invariant-moves_among-loop-statement l = moves_among l.name (statements (drop l.statement-index l.of)) ≡ moves_among l.name (statements l.of)
