use Rattle.std.proofs.Common.{◌≡◌, [], drop}
use Rattle.opencl_tree.specs.View.{expressions}
use Rattle.opencl_values.specs.Values.{values_behind}
use Rattle.opencl_values.specs.View.{names, values}
use Rattle.opencl_values.proofs.values.+values.Given as goal

abbrev pub invariant-values_of-loop-one : goal.invariant-values_of-loop-one
invariant-values_of-loop-one l = values_behind (names l.names) (values l.values.items) (expressions (drop l.one-index l.of))
    ≡ values_behind (names l.names) [] (expressions l.of)
