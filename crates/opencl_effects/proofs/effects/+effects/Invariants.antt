use Rattle.std.proofs.Common.{◌≡◌, drop}
use Rattle.opencl_tree.specs.View.{expressions}
use Rattle.opencl_effects.specs.Effects.{any_effect}
use Rattle.opencl_effects.specs.View.{helpers}
use Rattle.opencl_effects.proofs.effects.+effects.Given as goal

abbrev pub invariant-any_effect-loop-one : goal.invariant-any_effect-loop-one
invariant-any_effect-loop-one l = any_effect (helpers l.helpers) (expressions (drop l.one-index l.of)) ≡ any_effect (helpers l.helpers) (expressions l.of)
