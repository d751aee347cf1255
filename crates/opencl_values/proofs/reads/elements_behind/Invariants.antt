use Rattle.std.proofs.Common.{◌≡◌, [], drop}
use Rattle.core_code.specs.View.{site}
use Rattle.opencl_values.specs.ElementsView.{part}
use Rattle.opencl_values.specs.Reads.{elements_behind}
use Rattle.opencl_values.specs.View.{values}
use Rattle.opencl_values.proofs.reads.elements_behind.Given as goal

abbrev pub invariant-loop-place : goal.invariant-loop-place
invariant-loop-place l =
    elements_behind (site l.at) (part l.of) (values l.values.items) (drop l.place-index l.places)
    ≡ elements_behind (site l.at) (part l.of) [] l.places
