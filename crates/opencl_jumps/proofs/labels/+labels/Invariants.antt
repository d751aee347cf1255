use Rattle.std.proofs.Common.{◌≡◌, drop}
use Rattle.opencl_tree.specs.View.{statements}
use Rattle.opencl_jumps.specs.Labels.{has_label}
use Rattle.opencl_jumps.proofs.labels.+labels.Given as goal

abbrev pub invariant-has_label-loop-statement : goal.invariant-has_label-loop-statement
invariant-has_label-loop-statement l = has_label (statements (drop l.statement-index l.of)) ≡ has_label (statements l.of)
