use Rattle.std.proofs.Common.{◌≡◌, drop, map}
use Rattle.opencl_tree.specs.View.{declaration, declarator}
use Rattle.opencl_reading.specs.FileTypes.{with_declarators}
use Rattle.opencl_values.specs.View.{bindings}
use Rattle.host_shapes.proofs.parameters.push_declarators.Given as goal

abbrev pub invariant-loop-declarator : goal.invariant-loop-declarator
invariant-loop-declarator l =
    with_declarators (declaration l.declaration) (map declarator (drop l.declarator-index l.declaration.declarators.items)) (bindings l.visible.items)
    ≡ with_declarators (declaration l.declaration) (map declarator l.declaration.declarators.items) (bindings l.initial.visible.items)
