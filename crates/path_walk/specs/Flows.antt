-- How an item leaves statements along a path, whatever goes on behind them.
use Rattle.std.specs.Prelude.{◌≡◌, ℕ, Bool, true, cond}
use Rattle.semantics.specs.Core.{Term}
use Rattle.arrivals.specs.Symbolic.{Courses, Drawn, draw_loop, inside}
use Rattle.arrivals.specs.Trees.{Turns, AtHead}
use Rattle.walk_trees.specs.Trees.{Tree}
use Rattle.walk_trees.specs.Walks.{State}
use Rattle.obligations.specs.Walking.{Placed, course}
use Rattle.path_steps.specs.Paths.{Found, Followed, collect}
use Rattle.path_steps.specs.Halts.{Ended}
use Rattle.path_steps.specs.declared.halt.Halt.{Halt}
use Rattle.path_walk.specs.declared.flow.Flow.{Flow}
use Rattle.path_walk.specs.declared.flow.Flow.TheVariants.{Through, Broke, Continued, Stopped}

-- what is found on the way on
abbrev pub flows : {E : Type 0} → Flow → Courses (Tree E) (State E) → Turns → Followed E → Found E
flows Through w t m = collect m.found (w.go t m.state)
flows (Broke k) w t m = collect m.found (w.out k t m.state)
flows (Continued k) w t m = collect m.found (w.back k t m.state)
flows Stopped w t m = m.found

abbrev pub Goes : {E : Type 0} → (from : Followed E) → Turns → (Courses (Tree E) (State E) → Drawn (Tree E) (State E)) → Flow → (to : Followed E) → Turns → Type 0
Goes {E} l t drawn f m t' = (w : Courses (Tree E) (State E)) → collect l.found (drawn w t l.state) ≡ flows f w t' m

abbrev pub Fails : {E : Type 0} → (from : Followed E) → Turns → (Courses (Tree E) (State E) → Drawn (Tree E) (State E)) → Halt → (to : Followed E) → Type 0
Fails {E} l t drawn h m = (w : Courses (Tree E) (State E)) → Ended m.found h (collect l.found (drawn w t l.state))

-- a loop with a barrier up to its body, or past it: whatever its body is and whatever goes on
abbrev pub Opens : {E : Type 0} → Placed E → (loop : ℕ) (again : Bool) → Term → (from : Followed E) → Turns → Bool → (to : Followed E) → Turns → Type 0
Opens {E} p n a e l t b m t' = (body go : Drawn (Tree E) (State E)) → collect l.found (draw_loop (course p) true n a e body go t l.state) ≡ cond b (collect m.found (body t' m.state)) (collect m.found (go t' m.state))

abbrev pub NotOpened : {E : Type 0} → Placed E → (loop : ℕ) (again : Bool) → Term → (from : Followed E) → Turns → Halt → (to : Followed E) → Type 0
NotOpened {E} p n a e l t h m = (body go : Drawn (Tree E) (State E)) → Ended m.found h (collect l.found (draw_loop (course p) true n a e body go t l.state))

-- behind the body of a loop with a barrier
abbrev pub Closes : {E : Type 0} → Placed E → Flow → (from : Followed E) → Turns → Flow → (to : Followed E) → Turns → Type 0
Closes {E} p f l t f' m t' = (w : Courses (Tree E) (State E)) → flows f (inside (course p) w.go) t l ≡ flows f' w t' m

abbrev pub NotClosed : {E : Type 0} → Placed E → Flow → (from : Followed E) → Turns → Halt → (to : Followed E) → Type 0
NotClosed {E} p f l t h m = (w : Courses (Tree E) (State E)) → Ended m.found h (flows f (inside (course p) w.go) t l)

-- the test of a loop without one
abbrev pub head_of : {E : Type 0} → Placed E → (loop : ℕ) (again : Bool) → Turns → State E → Tree E
head_of p n a t st = (course p).arrive n a st (λ st'. (course p).stops (AtHead n a) t st')

-- the test of a head, whatever its body is and whatever goes on
abbrev pub Tested : {E : Type 0} → Placed E → (loop : ℕ) → Term → (from : Followed E) → Bool → (to : Followed E) → Type 0
Tested {E} p n e l b m = (body go : State E → Tree E) → collect l.found ((course p).test n e l.state (λ st. (course p).enter n st (λ st'. body st')) (λ st. go st)) ≡ cond b (collect m.found (body m.state)) (collect m.found (go m.state))

abbrev pub NotTested : {E : Type 0} → Placed E → (loop : ℕ) → Term → (from : Followed E) → Halt → (to : Followed E) → Type 0
NotTested {E} p n e l h m = (body go : State E → Tree E) → Ended m.found h (collect l.found ((course p).test n e l.state (λ st. (course p).enter n st (λ st'. body st')) (λ st. go st)))
