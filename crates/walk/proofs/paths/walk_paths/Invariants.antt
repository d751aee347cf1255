use Rattle.walk.specs.View.{maybe_choices}
use Rattle.places.specs.View.{place}
use Rattle.arrival_claims.specs.View.{placed}
use Rattle.walk.specs.Planting.{planted_at}
use Rattle.walk.specs.Walks.{Goes, left_of}
use Rattle.walk.proofs.paths.walk_paths.Given as goal

abbrev pub invariant-loop-next : goal.invariant-loop-next
invariant-loop-next g l = Goes (planted_at g.D.Domain (placed g.D.Domain l.placing) l.claims (place l.place)) l.so_far.paths.items l.so_far.ends l.so_far.count (maybe_choices l.next)

abbrev pub decreases-loop-next : goal.decreases-loop-next
decreases-loop-next g l = left_of (planted_at g.D.Domain (placed g.D.Domain l.placing) l.claims (place l.place)) (maybe_choices l.next)
