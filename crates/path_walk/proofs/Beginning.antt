-- A head and what is left behind it.
use Rattle.std.proofs.Common.{◌≡◌, ℕ, Bool, true, false, List, ◌∷◌, sym, ap, ◌∙◌}
use Rattle.std.specs.Prelude.{cond, Result, Ok, Err, IsErr, IsErrAnd, MatchResult}
use Rattle.semantics.specs.Core.{Term, Statement, Loop, Statements}
use Rattle.arrivals.specs.Points.{Left, turning, join}
use Rattle.arrivals.specs.Symbolic.{Courses, ahead, courses, draw_head}
use Rattle.arrivals.specs.Trees.{Turns}
use Rattle.walk_trees.specs.Trees.{Tree}
use Rattle.walk_trees.specs.Walks.{State}
use Rattle.obligations.specs.Walking.{Placed, course}
use Rattle.path_steps.specs.Paths.{Followed, collect}
use Rattle.path_steps.specs.declared.halt.Halt.{Halt}
use Rattle.path_steps.proofs.Testing.{ended_from, halted}
use Rattle.arrival_claims.specs.Claims.{Comes}
use Rattle.path_walk.specs.declared.flow.Flow.{Flow}
use Rattle.path_walk.specs.declared.flow.Flow.TheVariants.{Through}
use Rattle.path_walk.specs.Flows.{flows, Tested, NotTested}
use Rattle.path_walk.specs.Fronts.{Passes, NotPassed, fronted, PassAll, NoPass}
use Rattle.path_walk.proofs.Passing.{courses_join}
use Rattle.path_walk.specs.Heads.{turned_on, TurnsOn, NotTurned, EndsAt}
use Rattle.path_walk.specs.Rests.{found_along, NotLeft, ComesAlong}

-- what a walk of what is left says, and one of a head
abbrev pub LeftSays : {E : Type 0} → Placed E → List Left → Flow → Followed E → Turns → Followed E → Result (Unit {0}) Halt → Type 0
LeftSays p more f l t m r = MatchResult r (λ _. ComesAlong p more f l t m) (λ h. NotLeft p more f l t h m)

abbrev pub HeadSays : {E : Type 0} → Placed E → Statement → List Left → Followed E → Turns → Followed E → Result (Unit {0}) Halt → Type 0
HeadSays p s more l t m r = MatchResult r (λ _. Comes l (draw_head (course p) s more t) m.found) (λ h. EndsAt l (draw_head (course p) s more t) h m)

-- a loop that turns
module _ {E : Type 0} (p : Placed E) (b v : Statements) (s : Statement) (l m n o : Followed E) (t u w x : Turns) where
  abbrev pub TurnSays : Result Flow Halt → Type 0
  TurnSays r = MatchResult r (λ f. TurnsOn p b v s l t f o x) (λ h. NotTurned p b v s l t h o)

  loop_again : List Left → Courses (Tree E) (State E)
  loop_again around = ahead (course p) (turning s) (courses (course p) around)

  in_front : (around : List Left) → found_along p (turned_on b v s around) Through l t ≡ flows Through (fronted p b (fronted p v (loop_again around))) t l
  unfolding loop_again
  in_front around = ap (λ c. flows Through c t l) (courses_join p b (join v (turning s ∷ around)) ∙ ap (fronted p b) (courses_join p v (turning s ∷ around)))

  pub body_fails : (h : Halt) (r : Result Flow Halt) → IsErr r × IsErrAnd r (λ y. y ≡ h) → NoPass p b Through l t h o → TurnSays r
  body_fails h r i f = halted r h _ _ i (λ around. ended_from o.found h _ _ (in_front around) (f (fronted p v (loop_again around))))

  module _ (f : Flow) (a : PassAll p b Through l t f m u) where
    past_body : (around : List Left) → found_along p (turned_on b v s around) Through l t ≡ flows f (fronted p v (loop_again around)) u m
    past_body around = in_front around ∙ a (fronted p v (loop_again around))

    pub update_fails : (h : Halt) (r : Result Flow Halt) → IsErr r × IsErrAnd r (λ y. y ≡ h) → NoPass p v f m u h o → TurnSays r
    update_fails h r i k = halted r h _ _ i (λ around. ended_from o.found h _ _ (past_body around) (k (loop_again around)))

    pub turn_says : (g : Flow) → PassAll p v f m u g n w → (r : Result Flow Halt) → MatchResult r (λ y. Passes p true s g n w y o x) (λ h. NotPassed p true s g n w h o) → TurnSays r
    unfolding loop_again
    turn_says g c (Ok y) h = λ around. past_body around ∙ c (loop_again around) ∙ h (courses (course p) around)
    turn_says g c (Err y) h = λ around. ended_from o.found y _ _ (past_body around ∙ c (loop_again around)) (h (courses (course p) around))

-- a head that is a loop
module _ {E : Type 0} (p : Placed E) (n : ℕ) (e : Term) (b v : Statements) (s : Statement) (d : s ≡ Loop n e b v) (more : List Left) (l m o : Followed E) (t : Turns) where
  at_head : collect l.found (draw_head (course p) s more t l.state) ≡ collect l.found ((course p).test n e l.state (λ st. (course p).enter n st (λ st'. (courses (course p) (turned_on b v s more)).go t st')) (λ st. (courses (course p) more).go t st))
  at_head =
      ap (λ y. collect l.found (draw_head (course p) y more t l.state)) d
      ∙ ap (λ y. collect l.found ((course p).test n e l.state (λ st. (course p).enter n st (λ st'. (courses (course p) (turned_on b v y more)).go t st')) (λ st. (courses (course p) more).go t st))) (sym d)

  pub head_fails : (h : Halt) (r : Result (Unit {0}) Halt) → IsErr r × IsErrAnd r (λ y. y ≡ h) → NotTested p n e l h o → HeadSays p s more l t o r
  head_fails h r i f = halted r h _ _ i (ended_from o.found h _ _ at_head (f (λ st. (courses (course p) (turned_on b v s more)).go t st) (λ st. (courses (course p) more).go t st)))

  module _ (k : Bool) (q : Tested p n e l k m) where
    tested : (c : Bool) → k ≡ c → collect l.found (draw_head (course p) s more t l.state) ≡ cond c (found_along p (turned_on b v s more) Through m t) (found_along p more Through m t)
    tested c f =
        at_head
        ∙ q (λ st. (courses (course p) (turned_on b v s more)).go t st) (λ st. (courses (course p) more).go t st)
        ∙ ap (λ y. cond y (found_along p (turned_on b v s more) Through m t) (found_along p more Through m t)) f

    pub past_head : (r : Result (Unit {0}) Halt) → k ≡ false → LeftSays p more Through m t o r → HeadSays p s more l t o r
    past_head (Ok y) c h = h ∙ sym (tested false c)
    past_head (Err y) c h = ended_from o.found y _ _ (tested false c) h

    pub turn_fails : (h : Halt) (r : Result (Unit {0}) Halt) → k ≡ true → IsErr r × IsErrAnd r (λ y. y ≡ h) → NotTurned p b v s m t h o → HeadSays p s more l t o r
    turn_fails h r c i f = halted r h _ _ i (ended_from o.found h _ _ (tested true c) (f more))

    pub turn_goes : (x : Followed E) (u : Turns) (f : Flow) (r : Result (Unit {0}) Halt) → k ≡ true → TurnsOn p b v s m t f x u → LeftSays p more f x u o r → HeadSays p s more l t o r
    turn_goes x u f (Ok y) c a h = h ∙ sym (tested true c ∙ a more)
    turn_goes x u f (Err y) c a h = ended_from o.found y _ _ (tested true c ∙ a more) h
