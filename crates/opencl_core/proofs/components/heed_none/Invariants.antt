use Rattle.std.proofs.Common.{◌≡◌, drop}
use Rattle.opencl_core.specs.ComponentsView.{changed}
use Rattle.opencl_values.specs.View.{value}
use Rattle.opencl_core.specs.Components.{heed_none}
use Rattle.opencl_core.proofs.components.heed_none.Given as goal

abbrev pub invariant-loop-place : goal.invariant-loop-place
invariant-loop-place l =
    heed_none (changed l.changed) (value l.of) (drop l.place-index l.places) ≡ heed_none (changed l.changed) (value l.of) l.places
