use Rattle.std.proofs.Common.{◌≡◌, drop, map}
use Rattle.words.specs.View.{kind}
use Rattle.opencl_files.specs.View.{enumerator}
use Rattle.opencl_reading.specs.FileTypes.{with_constants, first}
use Rattle.opencl_values.specs.View.{bindings}
use Rattle.opencl_reading.proofs.file_types.push_constants.Given as goal

abbrev pub invariant-loop-constant : goal.invariant-loop-constant
invariant-loop-constant l =
    with_constants (kind l.ids) l.next (map enumerator (drop l.constant-index l.constants)) (bindings l.visible.items)
    ≡ with_constants (kind l.ids) first (map enumerator l.constants) (bindings l.initial.visible.items)
