use Rattle.std.proofs.Common.{◌≡◌, drop, map}
use Rattle.opencl_tree.specs.View.{declaration}
use Rattle.opencl_reading.specs.FileTypes.{with_aliases}
use Rattle.opencl_values.specs.View.{bindings}
use Rattle.opencl_reading.proofs.file_types.push_aliases.Given as goal

abbrev pub invariant-loop-alias : goal.invariant-loop-alias
invariant-loop-alias l =
    with_aliases (map declaration (drop l.alias-index l.aliases)) (bindings l.visible.items)
    ≡ with_aliases (map declaration l.aliases) (bindings l.initial.visible.items)
