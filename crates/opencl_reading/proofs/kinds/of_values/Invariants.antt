use Rattle.std.proofs.Common.{◌≡◌, ◌++◌, drop, map}
use Rattle.kernel_names.specs.Parameters.{value_kind, kinds}
use Rattle.syntax.specs.View.{parameter as parameter_seen}
use Rattle.words.specs.View.{kind as kind_seen}
use Rattle.opencl_reading.proofs.kinds.of_values.Given as goal

abbrev pub invariant-loop-parameter : goal.invariant-loop-parameter
invariant-loop-parameter l =
    map kind_seen l.found.items ++ kinds value_kind (map parameter_seen (drop l.parameter-index l.parameters)) ≡ kinds value_kind (map parameter_seen l.parameters)
