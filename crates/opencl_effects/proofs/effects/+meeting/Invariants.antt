use Rattle.std.proofs.Common.{◌≡◌, drop}
use Rattle.opencl_tree.specs.View.{expression, expressions}
use Rattle.opencl_effects.specs.Effects.{any_meet}
use Rattle.opencl_effects.proofs.effects.+meeting.Given as goal

abbrev pub invariant-any_meet-loop-one : goal.invariant-any_meet-loop-one
invariant-any_meet-loop-one l = any_meet (expression l.with) (expressions (drop l.one-index l.of)) ≡ any_meet (expression l.with) (expressions l.of)
