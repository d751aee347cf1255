use Rattle.std.proofs.Common.{◌≡◌, drop}
use Rattle.core_code.specs.View.{site}
use Rattle.opencl_values.specs.View.{meaning, value}
use Rattle.opencl_core.specs.VectorStores.{store_components}
use Rattle.opencl_core.specs.View.{room}
use Rattle.opencl_core.proofs.vector_stores.store_components.Given as goal

abbrev pub invariant-loop-place : goal.invariant-loop-place
invariant-loop-place l =
    store_components (site l.at) (meaning l.pointer) (value l.of) (drop l.place-index l.places) (room l.room)
    ≡ store_components (site l.at) (meaning l.pointer) (value l.of) l.places (room l.initial.room)
