use Rattle.std.proofs.Common.{◌≡◌, drop, map}
use Rattle.opencl_core.specs.Heads.{declare_parameters}
use Rattle.opencl_files.specs.View.{parameter}
use Rattle.opencl_core.specs.View.{room, local_count}
use Rattle.opencl_core.proofs.heads.declare_parameters.Given as goal

abbrev pub invariant-loop-parameter : goal.invariant-loop-parameter
invariant-loop-parameter l =
    declare_parameters (map local_count l.counts) (map parameter (drop l.parameter-index l.parameters)) (room l.room)
    ≡ declare_parameters (map local_count l.counts) (map parameter l.parameters) (room l.initial.room)
