use Rattle.std.proofs.Common.{◌≡◌, [], drop, map}
use Rattle.core_code.specs.View.{site, term}
use Rattle.opencl_terms.specs.View.{scalar}
use Rattle.opencl_values.specs.View.{value}
use Rattle.opencl_values.specs.Views.{all_split}
use Rattle.opencl_values.proofs.views.all_split.Given as goal

abbrev pub invariant-loop-place : goal.invariant-loop-place
invariant-loop-place l =
    all_split (site l.at) (scalar l.over) (value l.of) (map term l.terms.items) (drop l.place-index l.places)
    ≡ all_split (site l.at) (scalar l.over) (value l.of) [] l.places
