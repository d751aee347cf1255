use Rattle.std.proofs.Common.{◌≡◌, ◌++◌, drop, map}
use Rattle.arrivals.specs.Places.{reached, heads_among}
use Rattle.places.specs.Listing.{placed}
use Rattle.places.specs.View.{left, maybe_point, place, point}
use Rattle.places.proofs.placing.push_placed.Given as goal

abbrev pub invariant-loop-point : goal.invariant-loop-point
invariant-loop-point l = map place l.places.items ++ heads_among (maybe_point l.anchor) (reached (left l.rest)) (map point (drop l.point-index l.all)) ≡ map place l.fn.places.items ++ placed (maybe_point l.anchor) (left l.rest) (map point l.all)
