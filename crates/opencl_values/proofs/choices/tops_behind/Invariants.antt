use Rattle.std.proofs.Common.{◌≡◌, drop}
use Rattle.core_code.specs.View.{site, term}
use Rattle.opencl_values.specs.Choices.{first_top, tops_behind}
use Rattle.opencl_values.specs.View.{value}
use Rattle.opencl_values.proofs.choices.tops_behind.Given as goal

abbrev pub invariant-loop-place : goal.invariant-loop-place
invariant-loop-place l =
    tops_behind l.is_all (site l.at) (value l.of) (term l.so_far) (drop l.place-index l.places)
    ≡ tops_behind l.is_all (site l.at) (value l.of) (first_top l.is_all) l.places
