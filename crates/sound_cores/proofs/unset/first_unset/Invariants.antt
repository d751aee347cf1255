use Rattle.std.proofs.Common.{◌≡◌}
use Rattle.core_code.specs.View.{statements}
use Rattle.sound_cores.specs.Unset.{unset_among}
use Rattle.sound_cores.proofs.unset.first_unset.Given as goal

abbrev pub invariant-loop-n : goal.invariant-loop-n
invariant-loop-n l = l.unset ≡ unset_among (statements l.core.body.items) l.first l.n
