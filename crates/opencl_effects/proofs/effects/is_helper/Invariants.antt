use Rattle.std.proofs.Common.{◌≡◌, drop}
use Rattle.opencl_effects.specs.Effects.{is_helper}
use Rattle.opencl_effects.specs.View.{helpers}
use Rattle.opencl_effects.proofs.effects.is_helper.Given as goal

abbrev pub invariant-loop-helper : goal.invariant-loop-helper
invariant-loop-helper l = is_helper (helpers (drop l.helper-index l.helpers)) l.name ≡ is_helper (helpers l.helpers) l.name
