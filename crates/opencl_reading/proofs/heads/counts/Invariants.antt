use Rattle.std.proofs.Common.{◌≡◌, ◌++◌, drop, map}
use Rattle.launch_text.specs.View as texts
use Rattle.opencl_core.specs.View.{local_count}
use Rattle.opencl_reading.specs.HeadRules.{as_count}
use Rattle.opencl_reading.proofs.heads.counts.Given as goal

abbrev pub invariant-loop-local : goal.invariant-loop-local
invariant-loop-local l = map local_count l.found.items ++ map as_count (map texts.local (drop l.local-index l.locals)) ≡ map as_count (map texts.local l.locals)
