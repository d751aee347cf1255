use Rattle.std.proofs.Common.{◌≡◌, drop}
use Rattle.opencl_tree.specs.View.{statements}
use Rattle.opencl_jumps.specs.Exits.{ends, ends_behind}
use Rattle.opencl_jumps.proofs.exits.+ending.Given as goal

abbrev pub invariant-ends-loop-statement : goal.invariant-ends-loop-statement
invariant-ends-loop-statement l = ends_behind l.so (statements (drop l.statement-index l.of)) ≡ ends (statements l.of)
