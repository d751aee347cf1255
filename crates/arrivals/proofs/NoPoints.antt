-- Statements without loops and barriers have no points.
use Rattle.std.proofs.Common.{nat_eq, eq-eqb, ◌≡◌, ℕ, false, List, refl, inl, inr}
use Rattle.semantics.specs.Core.{If, Statements, none, one, Statement, Set, Store, Loop, Barrier, Return, Break, Continue}
use Rattle.arrivals.specs.Loops.{has_barrier, have_barrier}
use Rattle.arrivals.specs.Points.{Has, Point, points, points_one, has_loop, have_loop, join, Left}
use Rattle.std.specs.Prelude.{◌⊎◌, ◌||◌}
use Rattle.arrivals.proofs.Tests.{none_left, none_right, true_false}
use Rattle.arrivals.proofs.Joined.{has_either}

mutual
  no_points_one : (s : Statement) (rest : List Left) → has_barrier s ≡ false → ((k : ℕ) → has_loop k s ≡ false) → (p : Point) → Has p (points_one s rest) → ⊥
  no_points_one (Set n x e) rest b l p h = h
  no_points_one (Store n a site i e) rest b l p h = h
  no_points_one (If n e t f) rest b l p h = by (has_either p (points t rest) (points f rest) h)
      (no_points t rest (none_left (have_barrier t) (have_barrier f) b) (λ k. none_left (have_loop k t) (have_loop k f) (l k)) p)
      (no_points f rest (none_right (have_barrier t) (have_barrier f) b) (λ k. none_right (have_loop k t) (have_loop k f) (l k)) p)
    where
      by : Has p (points t rest) ⊎ Has p (points f rest) → (Has p (points t rest) → ⊥) → (Has p (points f rest) → ⊥) → ⊥
      by (inl k) f g = f k
      by (inr k) f g = g k
  no_points_one (Loop n e b' u) rest b l p h = true_false (nat_eq n n) (eq-eqb n n refl) (none_left (nat_eq n n) (have_loop n b' || have_loop n u) (l n))
  no_points_one (Barrier n x g) rest b l p h = cc
  no_points_one (Return n) rest b l p h = h
  no_points_one (Break n k) rest b l p h = h
  no_points_one (Continue n k) rest b l p h = h

  pub no_points : (ss : Statements) (rest : List Left) → have_barrier ss ≡ false → ((k : ℕ) → have_loop k ss ≡ false) → (p : Point) → Has p (points ss rest) → ⊥
  no_points none rest b l p h = h
  no_points (one s ss) rest b l p h = by (has_either p (points_one s (join ss rest)) (points ss rest) h)
      (no_points_one s (join ss rest) (none_left (has_barrier s) (have_barrier ss) b) (λ k. none_left (has_loop k s) (have_loop k ss) (l k)) p)
      (no_points ss rest (none_right (has_barrier s) (have_barrier ss) b) (λ k. none_right (has_loop k s) (have_loop k ss) (l k)) p)
    where
      by : Has p (points_one s (join ss rest)) ⊎ Has p (points ss rest) → (Has p (points_one s (join ss rest)) → ⊥) → (Has p (points ss rest) → ⊥) → ⊥
      by (inl k) f g = f k
      by (inr k) f g = g k
