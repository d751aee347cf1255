use Rattle.std.proofs.Common.{◌≡◌, drop, map}
use Rattle.launch_text.specs.View as texts
use Rattle.opencl_files.specs.View.{parameter as parameter_seen}
use Rattle.opencl_reading.specs.HeadRules.{are_locals}
use Rattle.opencl_reading.proofs.heads.are_locals.Given as goal

abbrev pub invariant-loop-i : goal.invariant-loop-i
invariant-loop-i l =
    are_locals (map parameter_seen l.parameters) (map texts.local (drop l.i l.locals)) ≡ are_locals (map parameter_seen l.parameters) (map texts.local l.locals)
