use Rattle.std.proofs.Common.{◌≡◌, drop, map}
use Rattle.core_code.specs.View.{site, term}
use Rattle.opencl_terms.specs.View.{scalar}
use Rattle.opencl_values.specs.Views.{split_behind}
use Rattle.opencl_values.proofs.views.split_behind.Given as goal

abbrev pub invariant-loop-place : goal.invariant-loop-place
invariant-loop-place l =
    split_behind (site l.at) (scalar l.over) (term l.bits) (map term l.terms.items) (drop l.place-index l.places)
    ≡ split_behind (site l.at) (scalar l.over) (term l.bits) (map term l.initial.terms.items) l.places
