use Rattle.std.proofs.Common.{◌≡◌, drop, map}
use Rattle.core_code.specs.View.{term}
use Rattle.opencl_terms.specs.Operations.{nothing}
use Rattle.opencl_values.specs.VectorCalls.{reduced}
use Rattle.opencl_values.proofs.vector_calls.reduced.Given as goal

abbrev pub invariant-loop-one : goal.invariant-loop-one
invariant-loop-one l =
    reduced l.operation (term l.so_far) (map term (drop l.one-index l.of)) ≡ reduced l.operation nothing (map term l.of)
