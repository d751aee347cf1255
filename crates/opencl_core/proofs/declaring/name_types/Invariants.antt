use Rattle.std.proofs.Common.{◌≡◌, drop, map}
use Rattle.opencl_tree.specs.View.{declarator}
use Rattle.opencl_core.specs.Declaring.{name_types}
use Rattle.opencl_core.specs.View.{room, shared}
use Rattle.opencl_core.proofs.declaring.name_types.Given as goal

abbrev pub invariant-loop-declarator : goal.invariant-loop-declarator
invariant-loop-declarator l =
    name_types (shared l.shared) (map declarator (drop l.declarator-index l.declarators)) (room l.room)
    ≡ name_types (shared l.shared) (map declarator l.declarators) (room l.initial.room)
