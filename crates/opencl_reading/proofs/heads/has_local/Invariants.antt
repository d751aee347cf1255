use Rattle.std.proofs.Common.{◌≡◌, drop, map}
use Rattle.opencl_files.specs.View.{parameter as parameter_seen}
use Rattle.opencl_reading.specs.HeadRules.{has_local}
use Rattle.opencl_reading.proofs.heads.has_local.Given as goal

abbrev pub invariant-loop-parameter : goal.invariant-loop-parameter
invariant-loop-parameter l = has_local (map parameter_seen (drop l.parameter-index l.parameters)) l.name ≡ has_local (map parameter_seen l.parameters) l.name
