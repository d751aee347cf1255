use Rattle.std.proofs.Common.{◌≡◌, drop}
use Rattle.opencl_tree.specs.View.{expressions}
use Rattle.opencl_effects.specs.Effects.{occurs_in}
use Rattle.opencl_effects.proofs.effects.+occurring.Given as goal

abbrev pub invariant-occurs_in-loop-one : goal.invariant-occurs_in-loop-one
invariant-occurs_in-loop-one l = occurs_in l.name (expressions (drop l.one-index l.of)) ≡ occurs_in l.name (expressions l.of)
