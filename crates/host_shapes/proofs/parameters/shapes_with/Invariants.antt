use Rattle.std.proofs.Common.{◌≡◌, [], drop, map}
use Rattle.launch_text.specs.View.{local}
use Rattle.opencl_files.specs.View.{parameter}
use Rattle.opencl_values.specs.View.{bindings}
use Rattle.host_shapes.specs.Meant.{meant}
use Rattle.host_shapes.specs.Types.{with_shapes}
use Rattle.host_shapes.proofs.parameters.shapes_with.Given as goal

abbrev pub invariant-loop-parameter : goal.invariant-loop-parameter
invariant-loop-parameter l =
    with_shapes (map meant l.found.items) (bindings l.visible) (map local l.locals) (map parameter (drop l.parameter-index l.parameters))
    ≡ with_shapes [] (bindings l.visible) (map local l.locals) (map parameter l.parameters)
