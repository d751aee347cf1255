use Rattle.std.proofs.Common.{◌≡◌, drop}
use Rattle.opencl_effects.specs.View.{mark}
use Rattle.opencl_values.specs.Scope as scope
use Rattle.opencl_values.specs.View.{all_drawn}
use Rattle.opencl_values.proofs.scope.drawn_in.Given as goal

abbrev pub invariant-loop-one : goal.invariant-loop-one
invariant-loop-one l = scope.drawn_in (all_drawn (drop l.one-index l.drawn)) (mark l.mark) ≡ scope.drawn_in (all_drawn l.drawn) (mark l.mark)
