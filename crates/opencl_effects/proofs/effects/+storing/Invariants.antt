use Rattle.std.proofs.Common.{◌≡◌, drop}
use Rattle.opencl_tree.specs.View.{expressions}
use Rattle.opencl_effects.specs.Effects.{any_stores}
use Rattle.opencl_effects.specs.View.{helpers}
use Rattle.opencl_effects.proofs.effects.+storing.Given as goal

abbrev pub invariant-any_stores-loop-one : goal.invariant-any_stores-loop-one
invariant-any_stores-loop-one l = any_stores (helpers l.helpers) (expressions (drop l.one-index l.of)) ≡ any_stores (helpers l.helpers) (expressions l.of)
