use Rattle.std.proofs.Common.{◌≡◌, drop}
use Rattle.opencl_terms.specs.Answers.{value_type}
use Rattle.opencl_values.specs.VectorCalls.{are_alike}
use Rattle.opencl_values.specs.View.{values}
use Rattle.opencl_values.proofs.vector_calls.are_alike.Given as goal

abbrev pub invariant-loop-value : goal.invariant-loop-value
invariant-loop-value l =
    are_alike l.strict (value_type l.to) (values (drop l.value-index l.of)) ≡ are_alike l.strict (value_type l.to) (values l.of)
