use Rattle.std.proofs.Common.{◌≡◌, drop}
use Rattle.opencl_tree.specs.View.{statements}
use Rattle.opencl_core.specs.Tails.{returns_among}
use Rattle.opencl_core.proofs.tails.+returning.Given as goal

abbrev pub invariant-returns_among-loop-statement : goal.invariant-returns_among-loop-statement
invariant-returns_among-loop-statement l = returns_among (statements (drop l.statement-index l.of)) ≡ returns_among (statements l.of)
