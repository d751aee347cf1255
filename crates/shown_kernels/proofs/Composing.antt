-- Statements in order, put together of their parts: assignments, choices and loops.
use Rattle.std.proofs.Common.{◌≡◌, ℕ, ◌+◌, ◌≤◌, ◌<◌, List, [], ◌∷◌, ◌++◌, arith, refl, sym, subst, inl, inr}
use Rattle.std.specs.Prelude.{Some}
use Rattle.semantics.specs.Core.{Term, Statement, Set, Store, If, Loop, Barrier, Return, Break, Continue, Statements, none}
use Rattle.types.specs.Elaboration.{single, join}
use Rattle.arrivals.specs.Points.{Has}
use Rattle.lanes.specs.Order.{Numbered}
use Rattle.sound_cores.specs.Told.{numbers_of, numbers_in, NoneTwice, Assigns, AllAssign}
use Rattle.sound_cores.proofs.Lists.{Apart, once-join, both-have}
use Rattle.sound_cores.proofs.Forming.{assigns-placed}
use Rattle.shown_kernels.proofs.Ordering.{Ordered, innermost, has-from, wider, nothing-ordered, joins}

-- a statement alone
alone : (ns : List ℕ) → NoneTwice ns → NoneTwice (ns ++ [])
alone ns h = once-join ns [] h tt (λ k x y. y)

-- an assignment of that number
abbrev pub IsStep : ℕ → Statement → Type 0
IsStep n s = (numbers_of s ≡ n ∷ []) × Assigns s

abbrev pub AreStep : ℕ → Statements → Type 0
AreStep n ss = (s : Statement) × (ss ≡ single s) × IsStep n s

step-rises : (loops : List ℕ) (low high n : ℕ) (s : Statement) → IsStep n s → low ≤ n → n < high → Numbered loops low high s
step-rises loops low high n (Set m x e) h a b = let e : m ≡ n = cc in (omega (arith, a, e), omega (arith, b, e))
step-rises loops low high n (Store m c site i e) h a b = let e : m ≡ n = cc in (omega (arith, a, e), omega (arith, b, e))
step-rises loops low high n (If m e t f) h a b = absurd h.1
step-rises loops low high n (Loop m e t f) h a b = absurd h.1
step-rises loops low high n (Barrier m l g) h a b = absurd h.1
step-rises loops low high n (Return m) h a b = absurd h.1
step-rises loops low high n (Break m k) h a b = absurd h.1
step-rises loops low high n (Continue m k) h a b = absurd h.1

step-has : (n k : ℕ) (s : Statement) → IsStep n s → Has k (numbers_in (single s)) → k ≡ n
step-has n k s h m = by (subst (λ ns. Has k (ns ++ [])) h.0 m)
  where
    by : Has k (n ∷ []) → k ≡ n
    by (inl e) = e
    by (inr x) = absurd x

pub step-ordered : (loops : List ℕ) (low high n : ℕ) (s : Statement) → IsStep n s → low ≤ n → n < high → Ordered loops low high (single s)
step-ordered loops low high n s h a b = record {
  rises = (step-rises loops low high n s h a b, tt);
  once = subst (λ ns. NoneTwice (ns ++ [])) (sym h.0) ((λ m. m), tt);
  placed = (assigns-placed (innermost loops) s h.1, tt);
}

pub barrier-ordered : (loops : List ℕ) (low high n : ℕ) (l g : _) → low ≤ n → n < high → Ordered loops low high (single (Barrier n l g))
barrier-ordered loops low high n l g a b = record { rises = ((a, b), tt); once = ((λ m. m), tt); placed = (tt, tt) }

pub return-ordered : (loops : List ℕ) (low high n : ℕ) → low ≤ n → n < high → Ordered loops low high (single (Return n))
return-ordered loops low high n a b = record { rises = ((a, b), tt); once = ((λ m. m), tt); placed = (tt, tt) }

-- out of the innermost of the loops
pub break-ordered : (loops : List ℕ) (low high n k : ℕ) → Some k ≡ innermost loops → low ≤ n → n < high → Ordered loops low high (single (Break n k))
break-ordered [] low high n k e a b = absurd cc
break-ordered (l ∷ loops) low high n k e a b = let q : k ≡ l = cc in record { rises = ((a, b, inl q), tt); once = ((λ m. m), tt); placed = (q, tt) }

pub continue-ordered : (loops : List ℕ) (low high n k : ℕ) → Some k ≡ innermost loops → low ≤ n → n < high → Ordered loops low high (single (Continue n k))
continue-ordered [] low high n k e a b = absurd cc
continue-ordered (l ∷ loops) low high n k e a b = let q : k ≡ l = cc in record { rises = ((a, b, inl q), tt); once = ((λ m. m), tt); placed = (q, tt) }

above : (loops : List ℕ) (low high n : ℕ) (ss : Statements) → n < low → Ordered loops low high ss → Has n (numbers_in ss) → ⊥
above loops low high n ss a o m = let f = has-from loops low high ss o n m in omega (arith, a, f.0)

if-alone : (loops : List ℕ) (n middle high : ℕ) (e : Term) (t f : Statements) → n < middle → middle ≤ high → Ordered loops (n + 1) middle t → Ordered loops middle high f → Ordered loops n high (single (If n e t f))
if-alone loops n middle high e t f a b o p = record {
  rises = ((omega arith, omega (arith, a, b), middle, a, b, o.rises, p.rises), tt);
  once = alone (n ∷ (numbers_in t ++ numbers_in f)) (
    (λ m. both-have (λ k. k ≡ n → ⊥) (numbers_in t) (numbers_in f)
        (λ k m e. above loops (n + 1) middle n t (omega arith) o (subst (λ k. Has k (numbers_in t)) e m))
        (λ k m e. above loops middle high n f a p (subst (λ k. Has k (numbers_in f)) e m)) n m refl),
    once-join (numbers_in t) (numbers_in f) o.once p.once (λ k x y. let c = has-from loops (n + 1) middle t o k x in let d = has-from loops middle high f p k y in omega (arith, c.1, d.0)),
  );
  placed = ((o.placed, p.placed), tt);
}

pub if-ordered : (loops : List ℕ) (n m middle top high : ℕ) (e : Term) (t f : Statements) → m ≡ n → n < middle → middle ≤ top → top ≤ high → Ordered loops (n + 1) middle t → Ordered loops middle top f → Ordered loops n high (single (If m e t f))
if-ordered loops n m middle top high e t f q a b c o p =
    subst (λ k. Ordered loops n high (single (If k e t f))) (sym q) (if-alone loops n middle high e t f a (omega (arith, b, c)) o (wider loops middle top middle high f (omega arith) c p))

-- a loop with its update
loop-alone : (loops : List ℕ) (n high : ℕ) (e : Term) (b u : Statements) → n < high → Ordered (n ∷ loops) (n + 1) high b → Ordered [] (n + 1) high u → AllAssign u → Apart (numbers_in b) (numbers_in u) → Ordered loops n high (single (Loop n e b u))
loop-alone loops n high e b u a o p h c = record {
  rises = ((omega arith, a, o.rises, p.rises), tt);
  once = alone (n ∷ (numbers_in b ++ numbers_in u)) (
    (λ m. both-have (λ k. k ≡ n → ⊥) (numbers_in b) (numbers_in u)
        (λ k m e. above (n ∷ loops) (n + 1) high n b (omega arith) o (subst (λ k. Has k (numbers_in b)) e m))
        (λ k m e. above [] (n + 1) high n u (omega arith) p (subst (λ k. Has k (numbers_in u)) e m)) n m refl),
    once-join (numbers_in b) (numbers_in u) o.once p.once c,
  );
  placed = ((o.placed, h), tt);
}

pub while-ordered : (loops : List ℕ) (n m top high : ℕ) (e : Term) (b : Statements) → m ≡ n → n < high → top ≤ high → Ordered (n ∷ loops) (n + 1) top b → Ordered loops n high (single (Loop m e b none))
while-ordered loops n m top high e b q a c o =
    subst (λ k. Ordered loops n high (single (Loop k e b none))) (sym q)
    (loop-alone loops n high e b none a (wider (n ∷ loops) (n + 1) top (n + 1) high b (omega arith) c o) (nothing-ordered [] (n + 1) high) tt (λ k x y. y))

-- behind its first part, which has the number after the loop's; the update has the one after that
for-loop : (loops : List ℕ) (n high : ℕ) (e : Term) (b : Statements) (u : Statement) → n + 3 ≤ high → IsStep (n + 2) u → Ordered (n ∷ loops) (n + 3) high b → Ordered loops n high (single (Loop n e b (single u)))
for-loop loops n high e b u a r o =
    loop-alone loops n high e b (single u) (omega (arith, a)) (wider (n ∷ loops) (n + 3) high (n + 1) high b (omega arith) (omega arith) o)
    (step-ordered [] (n + 1) high (n + 2) u r (omega arith) (omega (arith, a))) (r.1, tt)
    (λ k x y. let f = has-from (n ∷ loops) (n + 3) high b o k x in let g = step-has (n + 2) k u r y in omega (arith, f.0, g))

-- what the loop of a `for` has is not the number of its first part
for-apart : (loops : List ℕ) (n high : ℕ) (e : Term) (b : Statements) (u : Statement) → IsStep (n + 2) u → Ordered (n ∷ loops) (n + 3) high b → (k : ℕ) → Has k (numbers_in (single (Loop n e b (single u)))) → k ≡ n + 1 → ⊥
for-apart loops n high e b u r o =
    both-have (λ k. k ≡ n + 1 → ⊥) (n ∷ (numbers_in b ++ numbers_in (single u))) []
    (both-have (λ k. k ≡ n + 1 → ⊥) (n ∷ []) (numbers_in b ++ numbers_in (single u)) first
    (both-have (λ k. k ≡ n + 1 → ⊥) (numbers_in b) (numbers_in (single u))
    (λ k x q. let f = has-from (n ∷ loops) (n + 3) high b o k x in omega (arith, f.0, q))
    (λ k y q. let g = step-has (n + 2) k u r y in omega (arith, g, q))))
    (λ k x q. x)
  where
    first : (k : ℕ) → Has k (n ∷ []) → k ≡ n + 1 → ⊥
    first k (inl p) q = omega (arith, p, q)
    first k (inr x) q = x

for-alone : (loops : List ℕ) (n high : ℕ) (s : Statement) (e : Term) (b : Statements) (u : Statement) → n + 3 ≤ high → IsStep (n + 1) s → IsStep (n + 2) u → Ordered (n ∷ loops) (n + 3) high b → Ordered loops n high (join (single s) (single (Loop n e b (single u))))
for-alone loops n high s e b u a o r q =
    joins loops n high (single s) (single (Loop n e b (single u))) (step-ordered loops n high (n + 1) s o (omega arith) (omega (arith, a))) (for-loop loops n high e b u a r q)
    (λ k x y. for-apart loops n high e b u r q k y (step-has (n + 1) k s o x))

pub for-ordered : (loops : List ℕ) (n m f v top high : ℕ) (ss : Statements) (e : Term) (b : Statements) (u : Statement) → m ≡ n → f ≡ n + 1 → v ≡ n + 2 → n + 3 ≤ top → top ≤ high → AreStep f ss → IsStep v u → Ordered (n ∷ loops) (n + 3) top b → Ordered loops n high (join ss (single (Loop m e b (single u))))
for-ordered loops n m f v top high ss e b u x y z a c o r q =
    subst (λ ts. Ordered loops n high (join ts (single (Loop m e b (single u))))) (sym o.1)
    (subst (λ k. Ordered loops n high (join (single o.0) (single (Loop k e b (single u))))) (sym x)
    (for-alone loops n high o.0 e b u (omega (arith, a, c)) (subst (λ k. IsStep k o.0) y o.2) (subst (λ k. IsStep k u) z r) (wider (n ∷ loops) (n + 3) top (n + 3) high b (omega arith) c q)))
