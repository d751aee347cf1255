use Rattle.std.proofs.Common.{◌≡◌, drop}
use Rattle.opencl_tree.specs.View.{expressions}
use Rattle.opencl_effects.specs.Effects.{any_touches}
use Rattle.opencl_effects.specs.View.{helpers}
use Rattle.opencl_effects.proofs.effects.+touching.Given as goal

abbrev pub invariant-any_touches-loop-one : goal.invariant-any_touches-loop-one
invariant-any_touches-loop-one l = any_touches (helpers l.helpers) (expressions (drop l.one-index l.of)) ≡ any_touches (helpers l.helpers) (expressions l.of)
