use Rattle.std.proofs.Common.{◌≡◌, ◌++◌, drop, map}
use Rattle.kernel_names.specs.View.{variable}
use Rattle.opencl_core.specs.Rooms.{ended}
use Rattle.opencl_core.proofs.rooms.end_all.Given as goal

abbrev pub invariant-loop-variable : goal.invariant-loop-variable
invariant-loop-variable l =
    map variable l.outer.items ++ map (ended l.last) (map variable (drop l.variable-index l.inner))
    ≡ map variable l.initial.outer.items ++ map (ended l.last) (map variable l.inner)
