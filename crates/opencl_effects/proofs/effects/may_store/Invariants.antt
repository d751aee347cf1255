use Rattle.std.proofs.Common.{◌≡◌, drop}
use Rattle.opencl_effects.specs.Effects.{may_store}
use Rattle.opencl_effects.specs.View.{helpers}
use Rattle.opencl_effects.proofs.effects.may_store.Given as goal

abbrev pub invariant-loop-helper : goal.invariant-loop-helper
invariant-loop-helper l = may_store (helpers (drop l.helper-index l.helpers)) l.name ≡ may_store (helpers l.helpers) l.name
