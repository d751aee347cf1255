use Rattle.std.proofs.Common.{◌≡◌, drop, map}
use Rattle.launch_text.specs.View as texts
use Rattle.opencl_reading.specs.HeadRules.{has_count}
use Rattle.opencl_reading.proofs.heads.has_count.Given as goal

abbrev pub invariant-loop-local : goal.invariant-loop-local
invariant-loop-local l = has_count (map texts.local (drop l.local-index l.locals)) l.name ≡ has_count (map texts.local l.locals) l.name
