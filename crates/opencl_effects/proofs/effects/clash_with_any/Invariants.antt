use Rattle.std.proofs.Common.{◌≡◌, drop}
use Rattle.opencl_tree.specs.View.{expression, expressions}
use Rattle.opencl_effects.specs.Effects.{clash_with_any}
use Rattle.opencl_effects.specs.View.{helpers}
use Rattle.opencl_effects.proofs.effects.clash_with_any.Given as goal

abbrev pub invariant-loop-other : goal.invariant-loop-other
invariant-loop-other l = clash_with_any (helpers l.helpers) (expression l.left) (expressions (drop l.other-index l.others)) ≡ clash_with_any (helpers l.helpers) (expression l.left) (expressions l.others)
