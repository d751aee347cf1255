use Rattle.std.proofs.Common.{◌≡◌, drop}
use Rattle.opencl_terms.specs.Types as types
use Rattle.opencl_values.specs.Singles.{alone}
use Rattle.opencl_values.specs.VectorCalls.{type_among}
use Rattle.opencl_values.specs.View.{values}
use Rattle.opencl_values.proofs.vector_calls.type_among.Given as goal

abbrev pub invariant-loop-value : goal.invariant-loop-value
invariant-loop-value l =
    type_among (alone types.Int) (values (drop l.value-index l.of)) ≡ type_among (alone types.Int) (values l.of)
