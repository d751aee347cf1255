use Rattle.std.proofs.Common.{◌≡◌, drop}
use Rattle.opencl_terms.specs.View.{scalar}
use Rattle.opencl_core.specs.Heads.{add_arguments}
use Rattle.opencl_core.specs.View.{named, room}
use Rattle.opencl_core.proofs.heads.add_arguments.Given as goal

abbrev pub invariant-loop-place : goal.invariant-loop-place
invariant-loop-place l =
    add_arguments (named l.parameter) (scalar l.scalar) (drop l.place-index l.places) (room l.room)
    ≡ add_arguments (named l.parameter) (scalar l.scalar) l.places (room l.initial.room)
