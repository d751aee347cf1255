-- How a path begins at a place.
use Rattle.std.specs.Prelude.{◌≡◌, List, ◌∷◌}
use Rattle.semantics.specs.Core.{Statement, Statements}
use Rattle.arrivals.specs.Points.{Left, turning, join}
use Rattle.arrivals.specs.Trees.{Turns}
use Rattle.walk_trees.specs.Trees.{Tree}
use Rattle.walk_trees.specs.Walks.{State}
use Rattle.obligations.specs.Walking.{Placed}
use Rattle.path_steps.specs.Paths.{Followed, collect}
use Rattle.path_steps.specs.Halts.{Ended}
use Rattle.path_steps.specs.declared.halt.Halt.{Halt}
use Rattle.path_walk.specs.declared.flow.Flow.{Flow}
use Rattle.path_walk.specs.declared.flow.Flow.TheVariants.{Through}
use Rattle.path_walk.specs.Rests.{found_along}

-- a loop that turns: its body, its update and the loop itself
abbrev pub turned_on : (body update : Statements) → Statement → List Left → List Left
turned_on b u s around = join b (join u (turning s ∷ around))

abbrev pub TurnsOn : {E : Type 0} → Placed E → (body update : Statements) → Statement → (from : Followed E) → Turns → Flow → (to : Followed E) → Turns → Type 0
TurnsOn p b u s l t f m t' = (around : List Left) → found_along p (turned_on b u s around) Through l t ≡ found_along p around f m t'

abbrev pub NotTurned : {E : Type 0} → Placed E → (body update : Statements) → Statement → (from : Followed E) → Turns → Halt → (to : Followed E) → Type 0
NotTurned p b u s l t h m = (around : List Left) → Ended m.found h (found_along p (turned_on b u s around) Through l t)

-- a path that went no further
abbrev pub EndsAt : {E : Type 0} → Followed E → (State E → Tree E) → Halt → (to : Followed E) → Type 0
EndsAt l walk h m = Ended m.found h (collect l.found (walk l.state))
