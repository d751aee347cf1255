-- The walk of a place: whatever way it takes, what an own state goes on to is an own tree.
use Rattle.std.proofs.Common.{ℕ, Bool, true, false, ◌||◌, cond, nat_eq, List, [], ◌∷◌, Option, Some, None}
use Rattle.semantics.specs.Core.{Term, Statement, Set, Store, If, Loop, Barrier, Return, Break, Continue, Statements, none, one, number}
use Rattle.semantics.specs.Item.{update_of}
use Rattle.arrivals.specs.Loops.{have_barrier}
use Rattle.arrivals.specs.Points.{Point, Left, fresh, turning, join}
use Rattle.arrivals.specs.Places.{Place, behind}
use Rattle.arrivals.specs.Trees.{AtBarrier, AtHead, AtEnd, Turns, turned}
use Rattle.arrivals.specs.Symbolic.{Drawn, Courses, finish, inside, draw_loop, draw_one, draw, ahead, courses, draw_head, sketch_from, sketch}
use Rattle.walk_trees.specs.Trees.{Tree}
use Rattle.walk_trees.specs.Walks.{State}
use Rattle.walk_trees.specs.Statements.{assigned}
use Rattle.walk_trees.proofs.OwnQuotients.{HasOwn, IsOwnTree}
use Rattle.walk_trees.proofs.OwnTrees.{own-set}
use Rattle.walk_trees.proofs.OwnContents.{IsOwnBound}
use Rattle.walk_trees.proofs.Each.{Each}
use Rattle.obligations.specs.Walking.{Placed, course}
use Rattle.obligations.proofs.OwnSteps.{own-stops, own-arrive, own-enter, own-store, own-value, own-test}

module _ {E : Type 0} (w : Placed E) (bounds : Each IsOwnBound w.setting.contents) where
  -- a way on, with whatever turns
  abbrev pub Runs : Drawn (Tree E) (State E) → Type 0
  Runs d = (t : Turns) (st : State E) → HasOwn st → IsOwnTree (d t st)

  -- each way on
  pub record Owns (c : Courses (Tree E) (State E)) : Type 0 where
    pub go : Runs c.go
    pub out : (m : ℕ) → Runs (c.out m)
    pub back : (m : ℕ) → Runs (c.back m)

  either_way : (b : Bool) (d e : Drawn (Tree E) (State E)) → Runs d → Runs e → Runs (cond b d e)
  either_way true d e h k = h
  either_way false d e h k = k

  ends_own : Runs (finish (course w))
  ends_own t st h = own-stops w bounds AtEnd t st h

  loops : (b : Bool) (n : ℕ) (again : Bool) (e : Term) (body go : Drawn (Tree E) (State E)) → Runs body → Runs go → Runs (draw_loop (course w) b n again e body go)
  loops true n again e body go h k t st o =
      own-arrive w bounds n again st _ o (λ st1 o1. own-test w bounds n e st1 _ _ o1 (λ st2 o2. own-enter w bounds n st2 _ o2 (λ st3 o3. h (turned n t) st3 o3)) (λ st2 o2. k t st2 o2))
  loops false n again e body go h k t st o = own-arrive w bounds n again st _ o (λ st1 o1. own-stops w bounds (AtHead n again) t st1 o1)

  mutual
    draws_one : (again : Bool) (s : Statement) (c : Courses (Tree E) (State E)) → Owns c → Runs (draw_one (course w) again s c)
    draws_one a (Set n x e) c g t st o = own-value w bounds n e st _ o (λ v st1 i o1. g.go t (assigned x v st1) (own-set w.setting st1.variables x v o1.0 i, o1.1))
    draws_one a (Store n y site i e) c g t st o =
        own-value w bounds n i st _ o (λ x st1 p o1. own-value w bounds n e st1 _ o1 (λ v st2 q o2. own-store w bounds (Store n y site i e) x v st2 _ p q o2 (λ st3 o3. g.go t st3 o3)))
    draws_one a (If n e yeses noes) c g t st o = own-test w bounds n e st _ _ o (λ st1 o1. draws yeses c g t st1 o1) (λ st1 o1. draws noes c g t st1 o1)
    draws_one a (Loop n e b u) c g t st o =
        loops (have_barrier b || have_barrier u) n a e _ _ (λ t1 st1 o1. draws b (inside (course w) c.go) (record { go = ends_own; out = λ m. g.go; back = λ m. ends_own }) t1 st1 o1) g.go t st o
    draws_one a (Barrier n l k) c g t st o = own-stops w bounds (AtBarrier n) t st o
    draws_one a (Return n) c g t st o = own-stops w bounds AtEnd t st o
    draws_one a (Break n m) c g t st o = g.out m t st o
    draws_one a (Continue n m) c g t st o = g.back m t st o

    draws : (ss : Statements) (c : Courses (Tree E) (State E)) → Owns c → Runs (draw (course w) ss c)
    draws none c g t st o = g.go t st o
    draws (one s ss) c g t st o = draws_one false s _ (record { go = λ t1 st1 o1. draws ss c g t1 st1 o1; out = g.out; back = g.back }) t st o

  aheads : (s : Left) (c : Courses (Tree E) (State E)) → Owns c → Owns (ahead (course w) s c)
  aheads s c g = record {
    go = draws_one s.again s.statement c g;
    out = λ m. either_way (nat_eq (number s.statement) m) c.go (c.out m) g.go (g.out m);
    back = λ m. either_way (nat_eq (number s.statement) m) _ (c.back m) (draws (update_of s.statement) _ (record { go = draws_one s.again s.statement c g; out = g.out; back = g.back })) (g.back m);
  }

  lefts : (ss : List Left) → Owns (courses (course w) ss)
  lefts [] = record { go = ends_own; out = λ m. ends_own; back = λ m. ends_own }
  lefts (s ∷ ss) = aheads s (courses (course w) ss) (lefts ss)

  heads : (s : Statement) (rest : List Left) → Runs (draw_head (course w) s rest)
  heads (Loop n e b u) rest t st o =
      own-test w bounds n e st _ _ o (λ st1 o1. own-enter w bounds n st1 _ o1 (λ st2 o2. (lefts (join b (join u (turning (Loop n e b u) ∷ rest)))).go t st2 o2)) (λ st1 o1. (lefts rest).go t st1 o1)
  heads (Set n x e) rest t st o = (lefts (fresh (Set n x e) ∷ rest)).go t st o
  heads (Store n y site i e) rest t st o = (lefts (fresh (Store n y site i e) ∷ rest)).go t st o
  heads (If n e yeses noes) rest t st o = (lefts (fresh (If n e yeses noes) ∷ rest)).go t st o
  heads (Barrier n l k) rest t st o = (lefts (fresh (Barrier n l k) ∷ rest)).go t st o
  heads (Return n) rest t st o = (lefts (fresh (Return n) ∷ rest)).go t st o
  heads (Break n m) rest t st o = (lefts (fresh (Break n m) ∷ rest)).go t st o
  heads (Continue n m) rest t st o = (lefts (fresh (Continue n m) ∷ rest)).go t st o

  sketches : (body : Statements) (a h : Option Point) → Runs (sketch_from (course w) body a h)
  sketches body a None t st o = (lefts (behind body a)).go t st o
  sketches body a (Some h) t st o = heads h.statement h.rest t st o

  -- the sketch of any place, from an own state
  pub own-sketch : (body : Statements) (p : Place) (st : State E) → HasOwn st → IsOwnTree (sketch (course w) body p st)
  own-sketch body p st o = sketches body p.anchor p.head p.turns st o
