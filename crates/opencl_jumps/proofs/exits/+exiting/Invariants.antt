use Rattle.std.proofs.Common.{◌≡◌, drop}
use Rattle.opencl_tree.specs.View.{statements}
use Rattle.opencl_jumps.specs.Exits.{exits_among}
use Rattle.opencl_jumps.specs.View.{exit}
use Rattle.opencl_jumps.proofs.exits.+exiting.Given as goal

abbrev pub invariant-exits_among-loop-statement : goal.invariant-exits_among-loop-statement
invariant-exits_among-loop-statement l = exits_among (exit l.by) (statements (drop l.statement-index l.of)) ≡ exits_among (exit l.by) (statements l.of)
