-- Points of statements that are told apart are told apart by their numbers.
use Rattle.std.proofs.Common.{◌≡◌, ℕ, List, [], ◌∷◌, ◌++◌, refl, sym, ap, ◌∙◌, subst, inl, inr}
use Rattle.std.specs.Prelude.{◌⊎◌}
use Rattle.semantics.specs.Core.{Statement, Set, Store, If, Loop, Barrier, Return, Break, Continue, Statements, none, one, number}
use Rattle.arrivals.specs.Points.{Has, Left, join, turning, Point, point, points_one, points, IsNumbered}
use Rattle.arrivals.proofs.Joined.{has_left, has_right, has_either}
use Rattle.sound_cores.specs.Told.{numbers_of, numbers_in, NoneTwice}
use Rattle.sound_cores.proofs.Lists.{Apart, once-left, once-right, once-apart}

-- the points' numbers are among these
abbrev AreOf : List ℕ → List Point → Type 0
AreOf ns ps = (p : Point) → Has p ps → Has (number p.statement) ns

join-of : (ns ms : List ℕ) (ps qs : List Point) → AreOf ns ps → AreOf ms qs → AreOf (ns ++ ms) (ps ++ qs)
join-of ns ms ps qs f g p h = by (has_either p ps qs h)
  where
    by : Has p ps ⊎ Has p qs → Has (number p.statement) (ns ++ ms)
    by (inl k) = has_left (number p.statement) ns ms (f p k)
    by (inr k) = has_right (number p.statement) ns ms (g p k)

one-of : (n : ℕ) (q : Point) → number q.statement ≡ n → AreOf (n ∷ []) (q ∷ [])
one-of n q e p (inl h) = inl (ap (λ (p : Point). number p.statement) h ∙ e)
one-of n q e p (inr h) = absurd h

none-of : (ns : List ℕ) → AreOf ns []
none-of ns p h = absurd h

mutual
  point-of : (s : Statement) (rest : List Left) → AreOf (numbers_of s) (points_one s rest)
  point-of (Set n x e) rest = none-of (n ∷ [])
  point-of (Store n a site k e) rest = none-of (n ∷ [])
  point-of (If n e t f) rest = λ p h. inr (join-of (numbers_in t) (numbers_in f) (points t rest) (points f rest) (points-of t rest) (points-of f rest) p h)
  point-of (Loop n e b u) rest =
      let again : List Left = turning (Loop n e b u) ∷ rest in
      join-of (n ∷ []) (numbers_in b ++ numbers_in u) (point (Loop n e b u) rest ∷ []) (points b (join u again) ++ points u again)
      (one-of n (point (Loop n e b u) rest) refl)
      (join-of (numbers_in b) (numbers_in u) (points b (join u again)) (points u again) (points-of b (join u again)) (points-of u again))
  point-of (Barrier n l g) rest = one-of n (point (Barrier n l g) rest) refl
  point-of (Return n) rest = none-of (n ∷ [])
  point-of (Break n k) rest = none-of (n ∷ [])
  point-of (Continue n k) rest = none-of (n ∷ [])

  points-of : (ss : Statements) (rest : List Left) → AreOf (numbers_in ss) (points ss rest)
  points-of none rest = none-of []
  points-of (one s ss) rest = join-of (numbers_of s) (numbers_in ss) (points_one s (join ss rest)) (points ss rest) (point-of s (join ss rest)) (points-of ss rest)

joined : (ns ms : List ℕ) (ps qs : List Point) → AreOf ns ps → AreOf ms qs → Apart ns ms → IsNumbered ps → IsNumbered qs → IsNumbered (ps ++ qs)
joined ns ms ps qs f g a h k p q b c e = by (has_either p ps qs b) (has_either q ps qs c)
  where
    by : Has p ps ⊎ Has p qs → Has q ps ⊎ Has q qs → p ≡ q
    by (inl x) (inl y) = h p q x y e
    by (inl x) (inr y) = absurd (a (number q.statement) (subst (λ n. Has n ns) e (f p x)) (g q y))
    by (inr x) (inl y) = absurd (a (number p.statement) (subst (λ n. Has n ns) (sym e) (f q y)) (g p x))
    by (inr x) (inr y) = k p q x y e

one-numbered : (r : Point) → IsNumbered (r ∷ [])
one-numbered r p q (inl a) (inl b) e = a ∙ sym b
one-numbered r p q (inl a) (inr b) e = absurd b
one-numbered r p q (inr a) b e = absurd a

none-numbered : IsNumbered []
none-numbered p q a b e = absurd a

mutual
  point-numbered : (s : Statement) (rest : List Left) → NoneTwice (numbers_of s) → IsNumbered (points_one s rest)
  point-numbered (Set n x e) rest h = none-numbered
  point-numbered (Store n a site k e) rest h = none-numbered
  point-numbered (If n e t f) rest h =
      joined (numbers_in t) (numbers_in f) (points t rest) (points f rest) (points-of t rest) (points-of f rest) (once-apart (numbers_in t) (numbers_in f) h.1)
      (points-numbered t rest (once-left (numbers_in t) (numbers_in f) h.1)) (points-numbered f rest (once-right (numbers_in t) (numbers_in f) h.1))
  point-numbered (Loop n e b u) rest h =
      let again : List Left = turning (Loop n e b u) ∷ rest in
      joined (n ∷ []) (numbers_in b ++ numbers_in u) (point (Loop n e b u) rest ∷ []) (points b (join u again) ++ points u again)
      (one-of n (point (Loop n e b u) rest) refl)
      (join-of (numbers_in b) (numbers_in u) (points b (join u again)) (points u again) (points-of b (join u again)) (points-of u again))
      (once-apart (n ∷ []) (numbers_in b ++ numbers_in u) h) (one-numbered (point (Loop n e b u) rest))
      (joined (numbers_in b) (numbers_in u) (points b (join u again)) (points u again) (points-of b (join u again)) (points-of u again) (once-apart (numbers_in b) (numbers_in u) h.1)
      (points-numbered b (join u again) (once-left (numbers_in b) (numbers_in u) h.1)) (points-numbered u again (once-right (numbers_in b) (numbers_in u) h.1)))
  point-numbered (Barrier n l g) rest h = one-numbered (point (Barrier n l g) rest)
  point-numbered (Return n) rest h = none-numbered
  point-numbered (Break n k) rest h = none-numbered
  point-numbered (Continue n k) rest h = none-numbered

  pub points-numbered : (ss : Statements) (rest : List Left) → NoneTwice (numbers_in ss) → IsNumbered (points ss rest)
  points-numbered none rest h = none-numbered
  points-numbered (one s ss) rest h =
      joined (numbers_of s) (numbers_in ss) (points_one s (join ss rest)) (points ss rest) (point-of s (join ss rest)) (points-of ss rest) (once-apart (numbers_of s) (numbers_in ss) h)
      (point-numbered s (join ss rest) (once-left (numbers_of s) (numbers_in ss) h)) (points-numbered ss rest (once-right (numbers_of s) (numbers_in ss) h))
