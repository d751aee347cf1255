use Rattle.std.proofs.Common.{◌≡◌, drop, map}
use Rattle.opencl_tree.specs.View.{statements}
use Rattle.opencl_files.specs.View.{parameter}
use Rattle.opencl_core.specs.Moving.{moving_parameters}
use Rattle.opencl_core.specs.View.{room}
use Rattle.opencl_core.proofs.moving.move_parameters.Given as goal

abbrev pub invariant-loop-parameter : goal.invariant-loop-parameter
invariant-loop-parameter l =
    moving_parameters (statements l.body) (map parameter (drop l.parameter-index l.parameters)) (room l.room)
    ≡ moving_parameters (statements l.body) (map parameter l.parameters) (room l.initial.room)
