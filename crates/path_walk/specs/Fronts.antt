-- A statement in front of what is left.
use Rattle.std.specs.Prelude.{◌≡◌, Bool, false}
use Rattle.semantics.specs.Core.{Statement, Statements, none, one}
use Rattle.semantics.specs.Item.{update_of}
use Rattle.arrivals.specs.Symbolic.{Courses, Drawn, draw, draw_one, ahead}
use Rattle.arrivals.specs.Trees.{Turns}
use Rattle.walk_trees.specs.Trees.{Tree}
use Rattle.walk_trees.specs.Walks.{State}
use Rattle.obligations.specs.Walking.{Placed, course}
use Rattle.path_steps.specs.Paths.{Followed}
use Rattle.path_steps.specs.Halts.{Ended}
use Rattle.path_steps.specs.declared.halt.Halt.{Halt}
use Rattle.path_walk.specs.declared.flow.Flow.{Flow}
use Rattle.path_walk.specs.Flows.{flows}

-- after a `continue` of a loop: its update, then the loop itself
abbrev pub updated : {E : Type 0} → Placed E → (again : Bool) → Statement → Courses (Tree E) (State E) → Drawn (Tree E) (State E)
updated p a s w t st = draw (course p) (update_of s) (record { go = draw_one (course p) a s w; out = w.out; back = w.back }) t st

-- a statement in front, where what stands before it was left that way
abbrev pub Passes : {E : Type 0} → Placed E → (again : Bool) → Statement → Flow → (from : Followed E) → Turns → Flow → (to : Followed E) → Turns → Type 0
Passes {E} p a s f l t f' m t' = (w : Courses (Tree E) (State E)) → flows f (ahead (course p) (record { statement = s; again = a }) w) t l ≡ flows f' w t' m

abbrev pub NotPassed : {E : Type 0} → Placed E → (again : Bool) → Statement → Flow → (from : Followed E) → Turns → Halt → (to : Followed E) → Type 0
NotPassed {E} p a s f l t h m = (w : Courses (Tree E) (State E)) → Ended m.found h (flows f (ahead (course p) (record { statement = s; again = a }) w) t l)

-- statements in front
abbrev pub fronted : {E : Type 0} → Placed E → Statements → Courses (Tree E) (State E) → Courses (Tree E) (State E)
fronted p none w = w
fronted p (one s ss) w = ahead (course p) (record { statement = s; again = false }) (fronted p ss w)

abbrev pub PassAll : {E : Type 0} → Placed E → Statements → Flow → (from : Followed E) → Turns → Flow → (to : Followed E) → Turns → Type 0
PassAll {E} p ss f l t f' m t' = (w : Courses (Tree E) (State E)) → flows f (fronted p ss w) t l ≡ flows f' w t' m

abbrev pub NoPass : {E : Type 0} → Placed E → Statements → Flow → (from : Followed E) → Turns → Halt → (to : Followed E) → Type 0
NoPass {E} p ss f l t h m = (w : Courses (Tree E) (State E)) → Ended m.found h (flows f (fronted p ss w) t l)
