use Rattle.std.proofs.Common.{◌≡◌, [], drop, map}
use Rattle.core_code.specs.View.{site, term}
use Rattle.opencl_terms.specs.View.{scalar}
use Rattle.opencl_values.specs.View.{value}
use Rattle.opencl_values.specs.Views.{joined_behind}
use Rattle.opencl_values.proofs.views.joined_behind.Given as goal

abbrev pub invariant-loop-place : goal.invariant-loop-place
invariant-loop-place l =
    joined_behind (site l.at) (scalar l.over) (scalar l.to) (value l.memory) (map term l.terms.items) (drop l.place-index l.places)
    ≡ joined_behind (site l.at) (scalar l.over) (scalar l.to) (value l.memory) [] l.places
