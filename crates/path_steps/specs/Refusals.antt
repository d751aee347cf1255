-- What a walk's refusal says of the path on which it was refused.
use Rattle.std.specs.Prelude.{◌≡◌, false}
use Rattle.walk_trees.specs.Trees.{Goal, Tree}
use Rattle.walk_trees.specs.Walks.{Setting, State, ranged}
use Rattle.semantics.specs.Word.{Kind}
use Rattle.facts.specs.Symbols.{Fact}
use Rattle.path_steps.specs.Paths.{is_goal_fit, Found, Followed, collect}
use Rattle.facts.specs.declared.error.WalkError.{WalkError}
use Rattle.facts.specs.declared.error.WalkError.TheVariants as errors

-- what a refused walk says of all that is found along the path
abbrev pub Refused : {E : Type 0} → WalkError → Found E → Type 0
Refused errors.TooMany m = m.is_few ≡ false
Refused errors.TooLarge m = m.is_fit ≡ false
Refused errors.Memory m = Unit {0}

-- a step was refused: whatever goes on
abbrev pub StopsAtStep : {E : Type 0} → Followed E → WalkError → (State E → (State E → Tree E) → Tree E) → Type 0
StopsAtStep {E} from e walk = (go : State E → Tree E) → Refused e (collect from.found (walk from.state go))

-- with an answer
abbrev pub Stops : {E A : Type 0} → Followed E → WalkError → (State E → (A → State E → Tree E) → Tree E) → Type 0
Stops {E} {A} from e walk = (go : A → State E → Tree E) → Refused e (collect from.found (walk from.state go))

-- with two
abbrev pub StopsTwo : {E A B : Type 0} → Followed E → WalkError → (State E → (A → B → State E → Tree E) → Tree E) → Type 0
StopsTwo {E} {A} {B} from e walk = (go : A → B → State E → Tree E) → Refused e (collect from.found (walk from.state go))

-- with a form that is to be in the range of a kind, whatever the kind
abbrev pub StopsAtForm : {E : Type 0} → Setting E → Followed E → WalkError → (State E → (Fact → State E → Tree E) → Tree E) → Type 0
StopsAtForm s from e walk = (k : Kind) → Stops from e (λ st go. walk st (λ f st'. ranged s k f st' go))

-- a goal was not made: a number of it is no `i64`, or there was no memory
abbrev pub IsGoalUnfit : WalkError → Goal → Type 0
IsGoalUnfit errors.TooMany g = ⊥
IsGoalUnfit errors.TooLarge g = is_goal_fit g ≡ false
IsGoalUnfit errors.Memory g = Unit {0}
