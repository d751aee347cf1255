-- What it says of a path that it goes no further.
use Rattle.std.specs.Prelude.{◌≡◌}
use Rattle.walk_trees.specs.Trees.{Tree}
use Rattle.walk_trees.specs.Walks.{State}
use Rattle.path_steps.specs.Paths.{Found, Followed, collect}
use Rattle.path_steps.specs.Refusals.{Refused}
use Rattle.path_steps.specs.declared.halt.Halt.{Halt}
use Rattle.path_steps.specs.declared.halt.Halt.TheVariants as halts

-- where nobody goes on, all that is found is what was found so far
abbrev pub Ended : {E : Type 0} → (so_far : Found E) → Halt → Found E → Type 0
Ended n halts.Dead m = m ≡ n
Ended n (halts.Refused e) m = Refused e m

-- a step went no further: whatever goes on
abbrev pub HaltsAtStep : {E : Type 0} → (from to : Followed E) → Halt → (State E → (State E → Tree E) → Tree E) → Type 0
HaltsAtStep {E} from to h walk = (go : State E → Tree E) → Ended to.found h (collect from.found (walk from.state go))

-- with an answer
abbrev pub Halts : {E A : Type 0} → (from to : Followed E) → Halt → (State E → (A → State E → Tree E) → Tree E) → Type 0
Halts {E} {A} from to h walk = (go : A → State E → Tree E) → Ended to.found h (collect from.found (walk from.state go))
