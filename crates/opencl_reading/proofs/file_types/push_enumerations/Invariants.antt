use Rattle.std.proofs.Common.{◌≡◌, drop, map}
use Rattle.words.specs.View.{kind}
use Rattle.opencl_files.specs.View.{enumerators}
use Rattle.opencl_reading.specs.FileTypes.{with_enumerations}
use Rattle.opencl_values.specs.View.{bindings}
use Rattle.opencl_reading.proofs.file_types.push_enumerations.Given as goal

abbrev pub invariant-loop-constants : goal.invariant-loop-constants
invariant-loop-constants l =
    with_enumerations (kind l.ids) (map enumerators (drop l.constants-index l.enumerations)) (bindings l.visible.items)
    ≡ with_enumerations (kind l.ids) (map enumerators l.enumerations) (bindings l.initial.visible.items)
