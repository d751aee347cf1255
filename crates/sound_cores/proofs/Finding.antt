-- What the tests of points find is one of the numbers, and whoever leaves a loop leaves the one around.
use Rattle.std.proofs.Common.{◌≡◌, ℕ, Bool, true, ◌||◌, nat_eq, List, [], ◌∷◌, ◌++◌, refl, sym, subst, inl, inr, eqb-true}
use Rattle.std.specs.Prelude.{Option, ◌⊎◌}
use Rattle.semantics.specs.Core.{Statement, Set, Store, If, Loop, Barrier, Return, Break, Continue, Statements, none, one, number}
use Rattle.arrivals.specs.Points.{Has, has_loop, have_loop, jumps_to, jump_to, numbered}
use Rattle.arrivals.proofs.Joined.{has_left, has_right}
use Rattle.arrivals.proofs.Tests.{one_of}
use Rattle.sound_cores.specs.Told.{numbers_of, numbers_in, Leaves, IsPlaced, ArePlaced}

from : (C : Type 0) (a b : Bool) → (a ≡ true → C) → (b ≡ true → C) → (a || b) ≡ true → C
from C a b f g h = by (one_of a b h)
  where
    by : (a ≡ true) ⊎ (b ≡ true) → C
    by (inl e) = f e
    by (inr e) = g e

joined : (k : ℕ) (xs ys : List ℕ) (a b : Bool) → (a ≡ true → Has k xs) → (b ≡ true → Has k ys) → (a || b) ≡ true → Has k (xs ++ ys)
joined k xs ys a b f g h = from (Has k (xs ++ ys)) a b (λ e. has_left k xs ys (f e)) (λ e. has_right k xs ys (g e)) h

own-number : (s : Statement) → Has (number s) (numbers_of s)
own-number (Set n x e) = inl refl
own-number (Store n a site k e) = inl refl
own-number (If n e t f) = inl refl
own-number (Loop n e b u) = inl refl
own-number (Barrier n l g) = inl refl
own-number (Return n) = inl refl
own-number (Break n k) = inl refl
own-number (Continue n k) = inl refl

-- what the tests find is one of the numbers
pub numbered-has : (k : ℕ) (ss : Statements) → numbered k ss ≡ true → Has k (numbers_in ss)
numbered-has k none h = cc
numbered-has k (one s ss) h =
    joined k (numbers_of s) (numbers_in ss) (nat_eq (number s) k) (numbered k ss)
    (λ e. subst (λ m. Has m (numbers_of s)) (eqb-true (number s) k e) (own-number s)) (numbered-has k ss) h

mutual
  pub loop-has : (k : ℕ) (s : Statement) → has_loop k s ≡ true → Has k (numbers_of s)
  loop-has k (Set n x e) h = cc
  loop-has k (Store n a site i e) h = cc
  loop-has k (If n e t f) h = inr (joined k (numbers_in t) (numbers_in f) (have_loop k t) (have_loop k f) (loops-have k t) (loops-have k f) h)
  loop-has k (Loop n e b u) h =
      joined k (n ∷ []) (numbers_in b ++ numbers_in u) (nat_eq n k) (have_loop k b || have_loop k u) (λ e. inl (sym (eqb-true n k e)))
      (joined k (numbers_in b) (numbers_in u) (have_loop k b) (have_loop k u) (loops-have k b) (loops-have k u)) h
  loop-has k (Barrier n l g) h = cc
  loop-has k (Return n) h = cc
  loop-has k (Break n m) h = cc
  loop-has k (Continue n m) h = cc

  pub loops-have : (k : ℕ) (ss : Statements) → have_loop k ss ≡ true → Has k (numbers_in ss)
  loops-have k none h = cc
  loops-have k (one s ss) h = joined k (numbers_of s) (numbers_in ss) (has_loop k s) (have_loop k ss) (loop-has k s) (loops-have k ss) h

-- whoever leaves a loop leaves the one around
mutual
  pub leaves : (around : Option ℕ) (k : ℕ) (s : Statement) → IsPlaced around s → jumps_to k s ≡ true → Leaves around k
  leaves around k (Set n x e) p h = cc
  leaves around k (Store n a site i e) p h = cc
  leaves around k (If n e t f) p h = from (Leaves around k) (jump_to k t) (jump_to k f) (leave around k t p.0) (leave around k f p.1) h
  leaves around k (Loop n e b u) p h = cc
  leaves around k (Barrier n l g) p h = cc
  leaves around k (Return n) p h = cc
  leaves around k (Break n m) p h = subst (Leaves around) (eqb-true m k h) p
  leaves around k (Continue n m) p h = subst (Leaves around) (eqb-true m k h) p

  pub leave : (around : Option ℕ) (k : ℕ) (ss : Statements) → ArePlaced around ss → jump_to k ss ≡ true → Leaves around k
  leave around k none p h = cc
  leave around k (one s ss) p h = from (Leaves around k) (jumps_to k s) (jump_to k ss) (leaves around k s p.0) (leave around k ss p.1) h
