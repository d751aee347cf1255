use Rattle.std.proofs.Common.{◌≡◌, drop}
use Rattle.opencl_terms.specs.Types as types
use Rattle.opencl_terms.specs.View.{scalar}
use Rattle.opencl_values.specs.Calls.{scalar_with}
use Rattle.opencl_values.specs.View.{singles_seen}
use Rattle.opencl_values.proofs.calls.scalar_of_all.Given as goal

abbrev pub invariant-loop-value : goal.invariant-loop-value
invariant-loop-value l = scalar_with (scalar l.so_far) (singles_seen (drop l.value-index l.of)) ≡ scalar_with types.Int (singles_seen l.of)
