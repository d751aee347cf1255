-- The steps of the walk of a place, one by one.
use Rattle.std.specs.Prelude.{ℕ, true, false}
use Rattle.semantics.specs.Core.{Array, Site, Term}
use Rattle.walk_trees.specs.Trees.{Tree}
use Rattle.walk_trees.specs.Values.{Value}
use Rattle.walk_trees.specs.Walks.{State, Onward}
use Rattle.walk_trees.specs.Tests.{Outcomes}
use Rattle.walk_trees.specs.Terms.{stored}
use Rattle.walk_trees.specs.Statements.{assigned}
use Rattle.obligations.specs.Walking.{Placed, course}
use Rattle.path_steps.specs.Paths.{Followed}

abbrev pub value_at : {E : Type 0} → Placed E → ℕ → Term → State E → Onward E → Tree E
value_at w n e st go = (course w).value n e st go

abbrev pub test_at : {E : Type 0} → Placed E → ℕ → Term → State E → Outcomes E → Tree E
test_at w n e st go = (course w).test n e st (go true) (go false)

abbrev pub set_at : {E : Type 0} → Placed E → ℕ → ℕ → Term → State E → (State E → Tree E) → Tree E
set_at w n x e st go = value_at w n e st (λ f st'. go (assigned x f st'))

abbrev pub store_at : {E : Type 0} → Placed E → ℕ → Array → Site → (index value : Term) → State E → (State E → Tree E) → Tree E
store_at w n a site i e st go = value_at w n i st (λ f st1. value_at w n e st1 (λ g st2. stored w.setting a site f g st2 go))

-- a path on which a variable has another value
abbrev pub with_assigned : {E : Type 0} → Followed E → ℕ → Value → Followed E
with_assigned m x v = record { found = m.found; state = assigned x v m.state }
