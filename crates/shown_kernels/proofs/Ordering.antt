-- Statements that are numbered in order and told apart, and what of them stays so.
use Rattle.std.proofs.Common.{◌≡◌, ℕ, ◌+◌, ◌≤◌, ◌<◌, List, [], ◌∷◌, ◌++◌, arith, refl, sym, ap, ◌∙◌, subst, inl, inr, append_assoc}
use Rattle.std.specs.Prelude.{Option, Some, None}
use Rattle.semantics.specs.Core.{Statement, Set, Store, If, Loop, Barrier, Return, Break, Continue, Statements, none, one}
use Rattle.types.specs.Elaboration.{join}
use Rattle.arrivals.specs.Points.{Has}
use Rattle.lanes.specs.Order.{Numbered, AllNumbered}
use Rattle.sound_cores.specs.Told.{numbers_of, numbers_in, NoneTwice, ArePlaced}
use Rattle.sound_cores.proofs.Lists.{Apart, once-join, both-have}

abbrev pub innermost : List ℕ → Option ℕ
innermost [] = None
innermost (n ∷ ns) = Some n

-- numbers from `low` to below `high`, inside these loops, the innermost first
pub record Ordered (loops : List ℕ) (low high : ℕ) (ss : Statements) : Type 0 where
  pub rises : AllNumbered loops low high ss
  pub once : NoneTwice (numbers_in ss)
  pub placed : ArePlaced (innermost loops) ss

abbrev IsFrom : (low high : ℕ) → ℕ → Type 0
IsFrom low high k = (low ≤ k) × (k < high)

just : (low high n : ℕ) → low ≤ n → n < high → (k : ℕ) → Has k (n ∷ []) → IsFrom low high k
just low high n a b k (inl e) = subst (IsFrom low high) (sym e) (a, b)
just low high n a b k (inr h) = absurd h

among : (low high low' high' : ℕ) → low ≤ low' → high' ≤ high → (k : ℕ) → IsFrom low' high' k → IsFrom low high k
among low high low' high' a b k h = (omega (arith, a, h.0), omega (arith, b, h.1))

mutual
  within : (loops : List ℕ) (low high : ℕ) (s : Statement) → Numbered loops low high s → (k : ℕ) → Has k (numbers_of s) → IsFrom low high k
  within loops low high (Set n x e) h = just low high n h.0 h.1
  within loops low high (Store n a site i e) h = just low high n h.0 h.1
  within loops low high (If n e t f) h =
      both-have (IsFrom low high) (n ∷ []) (numbers_in t ++ numbers_in f) (just low high n h.0 h.1)
      (both-have (IsFrom low high) (numbers_in t) (numbers_in f)
      (λ k m. among low high (n + 1) h.2 (omega (arith, h.0)) h.4 k (all-within loops (n + 1) h.2 t h.5 k m))
      (λ k m. among low high h.2 high (omega (arith, h.0, h.3)) (omega arith) k (all-within loops h.2 high f h.6 k m)))
  within loops low high (Loop n e b u) h =
      both-have (IsFrom low high) (n ∷ []) (numbers_in b ++ numbers_in u) (just low high n h.0 h.1)
      (both-have (IsFrom low high) (numbers_in b) (numbers_in u)
      (λ k m. among low high (n + 1) high (omega (arith, h.0)) (omega arith) k (all-within (n ∷ loops) (n + 1) high b h.2 k m))
      (λ k m. among low high (n + 1) high (omega (arith, h.0)) (omega arith) k (all-within [] (n + 1) high u h.3 k m)))
  within loops low high (Barrier n l g) h = just low high n h.0 h.1
  within loops low high (Return n) h = just low high n h.0 h.1
  within loops low high (Break n k) h = just low high n h.0 h.1
  within loops low high (Continue n k) h = just low high n h.0 h.1

  all-within : (loops : List ℕ) (low high : ℕ) (ss : Statements) → AllNumbered loops low high ss → (k : ℕ) → Has k (numbers_in ss) → IsFrom low high k
  all-within loops low high none h = λ k m. absurd m
  all-within loops low high (one s ss) h = both-have (IsFrom low high) (numbers_of s) (numbers_in ss) (within loops low high s h.0) (all-within loops low high ss h.1)

pub has-from : (loops : List ℕ) (low high : ℕ) (ss : Statements) → Ordered loops low high ss → (k : ℕ) → Has k (numbers_in ss) → IsFrom low high k
has-from loops low high ss o = all-within loops low high ss o.rises

mutual
  widen : (loops : List ℕ) (low high low' high' : ℕ) → low' ≤ low → high ≤ high' → (s : Statement) → Numbered loops low high s → Numbered loops low' high' s
  widen loops low high low' high' a b (Set n x e) h = (omega (arith, a, h.0), omega (arith, b, h.1))
  widen loops low high low' high' a b (Store n c site i e) h = (omega (arith, a, h.0), omega (arith, b, h.1))
  widen loops low high low' high' a b (If n e t f) h =
      (omega (arith, a, h.0), omega (arith, b, h.1), h.2, h.3, omega (arith, b, h.4), h.5, all-widen loops h.2 high h.2 high' (omega arith) b f h.6)
  widen loops low high low' high' a b (Loop n e body u) h =
      (omega (arith, a, h.0), omega (arith, b, h.1), all-widen (n ∷ loops) (n + 1) high (n + 1) high' (omega arith) b body h.2, all-widen [] (n + 1) high (n + 1) high' (omega arith) b u h.3)
  widen loops low high low' high' a b (Barrier n l g) h = (omega (arith, a, h.0), omega (arith, b, h.1))
  widen loops low high low' high' a b (Return n) h = (omega (arith, a, h.0), omega (arith, b, h.1))
  widen loops low high low' high' a b (Break n k) h = (omega (arith, a, h.0), omega (arith, b, h.1), h.2)
  widen loops low high low' high' a b (Continue n k) h = (omega (arith, a, h.0), omega (arith, b, h.1), h.2)

  all-widen : (loops : List ℕ) (low high low' high' : ℕ) → low' ≤ low → high ≤ high' → (ss : Statements) → AllNumbered loops low high ss → AllNumbered loops low' high' ss
  all-widen loops low high low' high' a b none h = tt
  all-widen loops low high low' high' a b (one s ss) h = (widen loops low high low' high' a b s h.0, all-widen loops low high low' high' a b ss h.1)

pub wider : (loops : List ℕ) (low high low' high' : ℕ) (ss : Statements) → low' ≤ low → high ≤ high' → Ordered loops low high ss → Ordered loops low' high' ss
wider loops low high low' high' ss a b o = record { rises = all-widen loops low high low' high' a b ss o.rises; once = o.once; placed = o.placed }

pub nothing-ordered : (loops : List ℕ) (low high : ℕ) → Ordered loops low high none
nothing-ordered loops low high = record { rises = tt; once = tt; placed = tt }

-- one after another
numbers-join : (ss others : Statements) → numbers_in (join ss others) ≡ numbers_in ss ++ numbers_in others
numbers-join none others = refl
numbers-join (one s ss) others = ap (λ ns. numbers_of s ++ ns) (numbers-join ss others) ∙ sym (append_assoc (numbers_of s) (numbers_in ss) (numbers_in others))

rises-join : (loops : List ℕ) (low high : ℕ) (ss others : Statements) → AllNumbered loops low high ss → AllNumbered loops low high others → AllNumbered loops low high (join ss others)
rises-join loops low high none others h k = k
rises-join loops low high (one s ss) others h k = (h.0, rises-join loops low high ss others h.1 k)

placed-join : (around : Option ℕ) (ss others : Statements) → ArePlaced around ss → ArePlaced around others → ArePlaced around (join ss others)
placed-join around none others h k = k
placed-join around (one s ss) others h k = (h.0, placed-join around ss others h.1 k)

pub joins : (loops : List ℕ) (low high : ℕ) (ss others : Statements) → Ordered loops low high ss → Ordered loops low high others → Apart (numbers_in ss) (numbers_in others) → Ordered loops low high (join ss others)
joins loops low high ss others o p a = record {
  rises = rises-join loops low high ss others o.rises p.rises;
  once = subst NoneTwice (sym (numbers-join ss others)) (once-join (numbers_in ss) (numbers_in others) o.once p.once a);
  placed = placed-join (innermost loops) ss others o.placed p.placed;
}

pub follows : (loops : List ℕ) (low middle high : ℕ) (ss others : Statements) → low ≤ middle → middle ≤ high → Ordered loops low middle ss → Ordered loops middle high others → Ordered loops low high (join ss others)
follows loops low middle high ss others a b o p =
    joins loops low high ss others (wider loops low middle low high ss (omega arith) b o) (wider loops middle high low high others a (omega arith) p)
    (λ k x y. let f = has-from loops low middle ss o k x in let g = has-from loops middle high others p k y in omega (arith, f.1, g.0))
