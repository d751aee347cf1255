use Rattle.std.proofs.Common.{◌≡◌, [], drop, map}
use Rattle.core_code.specs.View.{site, term}
use Rattle.words.specs.View.{kind}
use Rattle.opencl_terms.specs.View.{scalar}
use Rattle.opencl_values.specs.FunctionsView.{form}
use Rattle.opencl_values.specs.VectorCalls.{called_behind}
use Rattle.opencl_values.specs.View.{values}
use Rattle.opencl_values.proofs.vector_calls.called_behind.Given as goal

abbrev pub invariant-loop-place : goal.invariant-loop-place
invariant-loop-place l =
    called_behind (kind l.call.ids) (form l.call.form) l.call.operation (site l.call.at) (scalar l.call.to) (values l.call.of.now) (map term l.terms.items) (drop l.place-index l.places)
    ≡ called_behind (kind l.call.ids) (form l.call.form) l.call.operation (site l.call.at) (scalar l.call.to) (values l.call.of.now) [] l.places
