-- Statements behind statements, and how they are left.
use Rattle.std.proofs.Common.{◌≡◌, ℕ, Bool, true, false, ◌||◌, List, drop, sym, ap, ◌∙◌}
use Rattle.std.specs.Prelude.{cond, Result, Ok, Err, IsErr, IsErrAnd, MatchResult}
use Rattle.semantics.specs.Core as core
use Rattle.core_code.specs.View.{statements}
use Rattle.core_code.specs.declared.tree.Statement.{Statement}
use Rattle.arrivals.specs.Loops.{have_barrier}
use Rattle.arrivals.specs.Symbolic.{Courses, Drawn, draw, draw_one, draw_loop, inside}
use Rattle.arrivals.specs.Trees.{Turns}
use Rattle.facts.specs.declared.error.WalkError.{WalkError}
use Rattle.walk_trees.specs.Trees.{Tree}
use Rattle.walk_trees.specs.Walks.{State}
use Rattle.obligations.specs.Walking.{Placed, course}
use Rattle.path_steps.specs.Paths.{Followed, collect}
use Rattle.path_steps.specs.Leads.{Steps, Leads}
use Rattle.path_steps.specs.Halts.{HaltsAtStep, Halts}
use Rattle.path_steps.specs.declared.halt.Halt.{Halt}
use Rattle.path_steps.specs.declared.halt.Halt.TheVariants as halts
use Rattle.path_steps.proofs.Refusing.{refused_from}
use Rattle.path_steps.proofs.Testing.{ended_from, halted}
use Rattle.arrival_claims.specs.Claims.{Comes, IsRefusedAt}
use Rattle.path_walk.specs.Steps.{test_at}
use Rattle.path_walk.specs.declared.flow.Flow.{Flow}
use Rattle.path_walk.specs.declared.flow.Flow.TheVariants.{Through, Stopped}
use Rattle.path_walk.specs.Flows.{Goes, Fails, Opens, NotOpened, Closes, NotClosed, head_of}

-- so many statements are behind
abbrev pub DrawsFollow : {E : Type 0} → Placed E → List Statement → Followed E → Turns → Followed E → Turns → ℕ → Type 0
DrawsFollow {E} p b l t m u i = (w : Courses (Tree E) (State E)) → collect l.found (draw (course p) (statements b) w t l.state) ≡ collect m.found (draw (course p) (statements (drop i b)) w u m.state)

-- what a walk's answer or halt says
abbrev pub Says : {E : Type 0} → Followed E → Turns → (Courses (Tree E) (State E) → Drawn (Tree E) (State E)) → Followed E → Turns → Result Flow Halt → Type 0
Says l t drawn m u r = MatchResult r (λ f. Goes l t drawn f m u) (λ h. Fails l t drawn h m)

module _ {E : Type 0} (p : Placed E) (a : Bool) (s s' : core.Statement) (d : s ≡ s') (l m : Followed E) (t u : Turns) where
  -- a step behind which all goes on
  module _ (one : State E → (State E → Tree E) → Tree E) (same : (w : Courses (Tree E) (State E)) → collect l.found (draw_one (course p) a s' w t l.state) ≡ collect l.found (one l.state (λ st. w.go t st))) where
    along_step : (w : Courses (Tree E) (State E)) → collect l.found (draw_one (course p) a s w t l.state) ≡ collect l.found (one l.state (λ st. w.go t st))
    along_step w = ap (λ z. collect l.found (draw_one (course p) a z w t l.state)) d ∙ same w

    pub step_goes : Steps l m one → Goes l t (draw_one (course p) a s) Through m t
    step_goes q w = along_step w ∙ q (λ st. w.go t st)

    pub step_fails : (h : Halt) (r : Result Flow Halt) → IsErr r × IsErrAnd r (λ x. x ≡ h) → HaltsAtStep l m h one → Says l t (draw_one (course p) a s) m u r
    step_fails h r i f = halted r h _ _ i (λ w. ended_from m.found h _ _ (along_step w) (f (λ st. w.go t st)))

-- an `if`
module _ {E : Type 0} (p : Placed E) (a : Bool) (n : ℕ) (e : core.Term) (y z : core.Statements) (s : core.Statement) (d : s ≡ core.If n e y z) (l m : Followed E) (t : Turns) where
  at_if : (w : Courses (Tree E) (State E)) → collect l.found (draw_one (course p) a s w t l.state) ≡ collect l.found (test_at p n e l.state (λ c st. cond c (draw (course p) y w t st) (draw (course p) z w t st)))
  at_if w = ap (λ x. collect l.found (draw_one (course p) a x w t l.state)) d

  pub if_fails : (u : Turns) (h : Halt) (r : Result Flow Halt) → IsErr r × IsErrAnd r (λ x. x ≡ h) → Halts l m h (test_at p n e) → Says l t (draw_one (course p) a s) m u r
  if_fails u h r i f = halted r h _ _ i (λ w. ended_from m.found h _ _ (at_if w) (f (λ c st. cond c (draw (course p) y w t st) (draw (course p) z w t st))))

  module _ (b : Bool) (q : Leads l m (test_at p n e) b) (o : Followed E) (u : Turns) where
    through_if : (c : Bool) → b ≡ c → (w : Courses (Tree E) (State E)) → collect l.found (draw_one (course p) a s w t l.state) ≡ collect m.found (cond c (draw (course p) y w t m.state) (draw (course p) z w t m.state))
    through_if c f w = at_if w ∙ q (λ x st. cond x (draw (course p) y w t st) (draw (course p) z w t st)) ∙ ap (λ x. collect m.found (cond x (draw (course p) y w t m.state) (draw (course p) z w t m.state))) f

    pub taken_says : (r : Result Flow Halt) → b ≡ true → Says m t (draw (course p) y) o u r → Says l t (draw_one (course p) a s) o u r
    taken_says (Ok f) c h = λ w. through_if true c w ∙ h w
    taken_says (Err x) c h = λ w. ended_from o.found x _ _ (through_if true c w) (h w)

    pub skipped_says : (r : Result Flow Halt) → b ≡ false → Says m t (draw (course p) z) o u r → Says l t (draw_one (course p) a s) o u r
    skipped_says (Ok f) c h = λ w. through_if false c w ∙ h w
    skipped_says (Err x) c h = λ w. ended_from o.found x _ _ (through_if false c w) (h w)

-- a loop
module _ {E : Type 0} (p : Placed E) (a : Bool) (n : ℕ) (e : core.Term) (b v : core.Statements) (s : core.Statement) (d : s ≡ core.Loop n e b v) (x : Bool) (bar : x ≡ (have_barrier b || have_barrier v)) (l : Followed E) (t : Turns) where
  at_loop : (c : Bool) → x ≡ c → (w : Courses (Tree E) (State E)) → collect l.found (draw_one (course p) a s w t l.state) ≡ collect l.found (draw_loop (course p) c n a e (λ t' st'. draw (course p) b (inside (course p) w.go) t' st') w.go t l.state)
  at_loop c q w = ap (λ z. collect l.found (draw_one (course p) a z w t l.state)) d ∙ ap (λ z. collect l.found (draw_loop (course p) z n a e (λ t' st'. draw (course p) b (inside (course p) w.go) t' st') w.go t l.state)) (sym bar ∙ q)

  pub head_goes : (m : Followed E) (u : Turns) → x ≡ false → Comes l (head_of p n a t) m.found → Goes l t (draw_one (course p) a s) Stopped m u
  head_goes m u q h w = at_loop false q w ∙ sym h

  pub head_fails : (m : Followed E) (u : Turns) (y : WalkError) (r : Result Flow Halt) → x ≡ false → IsErr r × IsErrAnd r (λ z. z ≡ halts.Refused y) → IsRefusedAt l (head_of p n a t) y → Says l t (draw_one (course p) a s) m u r
  head_fails m u y r q i h = halted r (halts.Refused y) _ _ i (λ w. refused_from y _ _ (at_loop false q w) h)

  pub open_fails : (m : Followed E) (u : Turns) (h : Halt) (r : Result Flow Halt) → x ≡ true → IsErr r × IsErrAnd r (λ z. z ≡ h) → NotOpened p n a e l t h m → Says l t (draw_one (course p) a s) m u r
  open_fails m u h r q i f = halted r h _ _ i (λ w. ended_from m.found h _ _ (at_loop true q w) (f (λ t' st'. draw (course p) b (inside (course p) w.go) t' st') w.go))

  module _ (m : Followed E) (t' : Turns) (c : Bool) (o : Opens p n a e l t c m t') (q : x ≡ true) where
    opened : (k : Bool) → c ≡ k → (w : Courses (Tree E) (State E)) → collect l.found (draw_one (course p) a s w t l.state) ≡ cond k (collect m.found (draw (course p) b (inside (course p) w.go) t' m.state)) (collect m.found (w.go t' m.state))
    opened k f w = at_loop true q w ∙ o (λ t'' st'. draw (course p) b (inside (course p) w.go) t'' st') w.go ∙ ap (λ z. cond z (collect m.found (draw (course p) b (inside (course p) w.go) t' m.state)) (collect m.found (w.go t' m.state))) f

    pub past_loop : c ≡ false → Goes l t (draw_one (course p) a s) Through m t'
    past_loop f w = opened false f w

    pub body_fails : (y : Followed E) (u : Turns) (h : Halt) (r : Result Flow Halt) → c ≡ true → IsErr r × IsErrAnd r (λ z. z ≡ h) → Fails m t' (draw (course p) b) h y → Says l t (draw_one (course p) a s) y u r
    body_fails y u h r f i g = halted r h _ _ i (λ w. ended_from y.found h _ _ (opened true f w) (g (inside (course p) w.go)))

    pub body_says : (y z : Followed E) (t2 u : Turns) (flow : Flow) (r : Result Flow Halt) → c ≡ true → Goes m t' (draw (course p) b) flow y t2 → MatchResult r (λ f. Closes p flow y t2 f z u) (λ h. NotClosed p flow y t2 h z) → Says l t (draw_one (course p) a s) z u r
    body_says y z t2 u flow (Ok g) f h k = λ w. opened true f w ∙ h (inside (course p) w.go) ∙ k w
    body_says y z t2 u flow (Err g) f h k = λ w. ended_from z.found g _ _ (opened true f w ∙ h (inside (course p) w.go)) (k w)
