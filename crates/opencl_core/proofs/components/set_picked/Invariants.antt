use Rattle.std.proofs.Common.{◌≡◌, drop}
use Rattle.core_code.specs.View.{site}
use Rattle.opencl_values.specs.View.{value}
use Rattle.opencl_core.specs.Components.{set_picked}
use Rattle.opencl_core.specs.View.{room}
use Rattle.opencl_core.proofs.components.set_picked.Given as goal

abbrev pub invariant-loop-place : goal.invariant-loop-place
invariant-loop-place l =
    set_picked (site l.at) l.slot (value l.of) l.from (drop l.place-index l.picked) (room l.room)
    ≡ set_picked (site l.at) l.slot (value l.of) 0 l.picked (room l.initial.room)
