use Rattle.std.proofs.Common.{◌≡◌, ◌++◌, drop, map}
use Rattle.places.specs.Listing.{placed_barriers}
use Rattle.places.specs.View.{place, point}
use Rattle.places.proofs.placing.push_barriers.Given as goal

abbrev pub invariant-loop-point : goal.invariant-loop-point
invariant-loop-point l = map place l.places.items ++ placed_barriers (map point l.all) (map point (drop l.point-index l.all)) ≡ map place l.fn.places.items ++ placed_barriers (map point l.all) (map point l.all)
