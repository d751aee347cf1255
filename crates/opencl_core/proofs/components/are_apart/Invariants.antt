use Rattle.std.proofs.Common.{◌≡◌, drop}
use Rattle.opencl_values.specs.View.{value}
use Rattle.opencl_core.specs.Components.{are_apart}
use Rattle.opencl_core.proofs.components.are_apart.Given as goal

abbrev pub invariant-loop-place : goal.invariant-loop-place
invariant-loop-place l =
    are_apart l.slot l.lowest (value l.of) l.from (drop l.place-index l.picked) ≡ are_apart l.slot 0 (value l.of) 0 l.picked
