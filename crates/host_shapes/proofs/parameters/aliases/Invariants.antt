use Rattle.std.proofs.Common.{◌≡◌, [], drop, map}
use Rattle.opencl_tree.specs.View.{declaration}
use Rattle.opencl_reading.specs.FileTypes.{with_aliases}
use Rattle.opencl_values.specs.View.{bindings}
use Rattle.host_shapes.proofs.parameters.aliases.Given as goal

abbrev pub invariant-loop-declaration : goal.invariant-loop-declaration
invariant-loop-declaration l =
    with_aliases (map declaration (drop l.declaration-index l.declarations)) (bindings l.visible.items) ≡ with_aliases (map declaration l.declarations) []
