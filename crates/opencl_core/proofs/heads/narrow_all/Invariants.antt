use Rattle.std.proofs.Common.{◌≡◌, drop}
use Rattle.core_code.specs.View.{site}
use Rattle.opencl_terms.specs.View.{scalar}
use Rattle.opencl_core.specs.Heads.{narrow_all}
use Rattle.opencl_core.specs.View.{room}
use Rattle.opencl_core.proofs.heads.narrow_all.Given as goal

abbrev pub invariant-loop-place : goal.invariant-loop-place
invariant-loop-place l =
    narrow_all (site l.at) l.slot (scalar l.scalar) (drop l.place-index l.places) (room l.room)
    ≡ narrow_all (site l.at) l.slot (scalar l.scalar) l.places (room l.initial.room)
