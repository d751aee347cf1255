use Rattle.std.proofs.Common.{◌≡◌, drop}
use Rattle.core_code.specs.View.{site, term}
use Rattle.opencl_values.specs.View.{value}
use Rattle.opencl_values.specs.Wholes.{behind_dropped}
use Rattle.opencl_values.proofs.wholes.behind_dropped.Given as goal

abbrev pub invariant-loop-place : goal.invariant-loop-place
invariant-loop-place l =
    behind_dropped (site l.at) (value l.whole) l.picked (drop l.place-index l.places) (term l.so_far)
    ≡ behind_dropped (site l.at) (value l.whole) l.picked l.places (term l.initial.so_far)
