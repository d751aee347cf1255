use Rattle.std.proofs.Common.{◌≡◌, ◌++◌, drop, map}
use Rattle.core_code.specs.View.{statements}
use Rattle.arrivals.specs.Points as meaning
use Rattle.places.specs.View.{left, point}
use Rattle.places.proofs.pointing.+points.Given as goal

abbrev pub invariant-points_in-loop-i : goal.invariant-points_in-loop-i
invariant-points_in-loop-i l = map point l.points.items ++ meaning.points (statements (drop l.i l.body)) (left l.rest) ≡ map point l.initial.points.items ++ meaning.points (statements l.body) (left l.rest)
