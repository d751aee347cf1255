-- Statements in front, one by one.
use Rattle.std.proofs.Common.{◌≡◌, ℕ, List, drop, refl, ap}
use Rattle.core_code.specs.View.{statements}
use Rattle.core_code.specs.declared.tree.Statement.{Statement}
use Rattle.arrivals.specs.Symbolic.{Courses, ahead, courses}
use Rattle.arrivals.specs.Points.{Left, fresh, join}
use Rattle.semantics.specs.Core.{Statements, none, one}
use Rattle.arrivals.specs.Trees.{Turns}
use Rattle.walk_trees.specs.Trees.{Tree}
use Rattle.walk_trees.specs.Walks.{State}
use Rattle.obligations.specs.Walking.{Placed, course}
use Rattle.path_steps.specs.Paths.{Followed}
use Rattle.path_walk.specs.declared.flow.Flow.{Flow}
use Rattle.path_walk.specs.Flows.{flows}
use Rattle.path_walk.specs.Fronts.{fronted}

-- so many statements are behind
abbrev pub PassesFollow : {E : Type 0} → Placed E → List Statement → Flow → Followed E → Turns → Flow → Followed E → Turns → ℕ → Type 0
PassesFollow {E} p b f l t f' m u i = (w : Courses (Tree E) (State E)) → flows f (fronted p (statements b) w) t l ≡ flows f' (fronted p (statements (drop i b)) w) u m

-- what is left behind statements in front
pub courses_join : {E : Type 0} (p : Placed E) (ss : Statements) (more : List Left) → courses (course p) (join ss more) ≡ fronted p ss (courses (course p) more)
courses_join p none more = refl
courses_join p (one s ss) more = ap (ahead (course p) (fresh s)) (courses_join p ss more)
