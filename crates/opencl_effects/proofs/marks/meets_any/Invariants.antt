use Rattle.std.proofs.Common.{◌≡◌, drop}
use Rattle.opencl_effects.specs.Marks.{meets_any}
use Rattle.opencl_effects.specs.View.{noted, all_noted}
use Rattle.opencl_effects.proofs.marks.meets_any.Given as goal

abbrev pub invariant-loop-other : goal.invariant-loop-other
invariant-loop-other l = meets_any (noted l.mark) (all_noted (drop l.other-index l.others)) ≡ meets_any (noted l.mark) (all_noted l.others)
