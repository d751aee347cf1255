-- What the code's steps have to do with the walk: whatever goes on, what is found to the end of the path stays the same.
use Rattle.std.specs.Prelude.{◌≡◌}
use Rattle.walk_trees.specs.Trees.{Tree}
use Rattle.walk_trees.specs.Walks.{State}
use Rattle.path_steps.specs.Paths.{Followed, collect}

abbrev pub Steps : {E : Type 0} → (from to : Followed E) → (State E → (State E → Tree E) → Tree E) → Type 0
Steps {E} from to walk = (go : State E → Tree E) → collect from.found (walk from.state go) ≡ collect to.found (go to.state)

-- with an answer
abbrev pub Leads : {E A : Type 0} → (from to : Followed E) → (State E → (A → State E → Tree E) → Tree E) → A → Type 0
Leads {E} {A} from to walk a = (go : A → State E → Tree E) → collect from.found (walk from.state go) ≡ collect to.found (go a to.state)

-- with two
abbrev pub LeadsTwo : {E A B : Type 0} → (from to : Followed E) → (State E → (A → B → State E → Tree E) → Tree E) → A → B → Type 0
LeadsTwo {E} {A} {B} from to walk a b = (go : A → B → State E → Tree E) → collect from.found (walk from.state go) ≡ collect to.found (go a b to.state)
