use Rattle.std.proofs.Common.{◌≡◌, ◌++◌, drop, map}
use Rattle.opencl_values.specs.View.{singles_seen, values}
use Rattle.opencl_values.specs.Wholes.{components_of}
use Rattle.opencl_values.proofs.wholes.components_of.Given as goal

abbrev pub invariant-loop-value : goal.invariant-loop-value
invariant-loop-value l = singles_seen l.all.items ++ components_of (values (drop l.value-index l.of)) l.place ≡ components_of (values l.of) l.place
