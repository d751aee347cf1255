use Rattle.std.proofs.Common.{◌≡◌, drop}
use Rattle.opencl_values.specs.ElementsView.{element}
use Rattle.opencl_values.specs.View.{value}
use Rattle.opencl_core.specs.Components.{store_all}
use Rattle.opencl_core.specs.ComponentsView.{spot}
use Rattle.opencl_core.specs.View.{room}
use Rattle.opencl_core.proofs.components.store_all.Given as goal

abbrev pub invariant-loop-place : goal.invariant-loop-place
invariant-loop-place l =
    store_all (spot l.spot) (element l.element) (value l.of) (drop l.place-index l.places) (room l.room)
    ≡ store_all (spot l.spot) (element l.element) (value l.of) l.places (room l.initial.room)
