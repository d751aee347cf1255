use Rattle.std.proofs.Common.{◌≡◌, ◌++◌, drop, map}
use Rattle.kernel_names.specs.View.{variable}
use Rattle.opencl_core.specs.Calling.{moved_variable}
use Rattle.opencl_core.proofs.calling.push_variables.Given as goal

abbrev pub invariant-loop-variable : goal.invariant-loop-variable
invariant-loop-variable l =
    map variable l.all.items ++ map (moved_variable l.behind) (map variable (drop l.variable-index l.of))
    ≡ map variable l.initial.all.items ++ map (moved_variable l.behind) (map variable l.of)
