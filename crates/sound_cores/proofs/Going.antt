-- Each path that reads a variable unset is found.
use Rattle.std.proofs.Common.{◌≡◌, ℕ, zero, suc, ◌+◌, ◌≤◌, ◌<◌, Bool, true, false, ◌&&◌, ◌||◌, nat_eq, refl, sym, subst, arith, inl, inr, length, eqb-true}
use Rattle.std.specs.Prelude.{Option, Some, None}
use Rattle.std.proofs.lemmas.Bool.{and_parts, eqb-false}
use Rattle.semantics.specs.Core.{Statement, Set, Store, If, Loop, Barrier, Return, Break, Continue, Statements, none, one}
use Rattle.semantics.specs.Launch.{Kernel}
use Rattle.sound_cores.specs.Unset.{Ways, reads, is_always, earlier, unset_at, steps, follows, either, turns, ways, all_ways, unset_among, first_unset}
use Rattle.sound_cores.proofs.Staying.{true-and, all-stay}
use Rattle.sound_cores.specs.Paths.{End, Behind, Broken, Continued, Returned, Unset, ReadsUnset, Then, Again, OutOf, Turns, Goes, AllGo}

-- one is set wherever the other is
abbrev Least : Bool → Bool → Type 0
Least a s = a ≡ true → s ≡ true

-- there is a number, and no larger one than this
abbrev AtMost : Option ℕ → ℕ → Type 0
AtMost None m = ⊥
AtMost (Some n) m = n ≤ m

-- what is said of the ways is so where a path ends
abbrev Agrees : Ways → End → Type 0
Agrees w (Behind s) = Least w.after s
Agrees w (Broken s) = Least w.broken s
Agrees w (Continued s) = Least w.continued s
Agrees w Returned = Unit {0}
Agrees w (Unset m) = AtMost w.unset m

least-left : (a b : Option ℕ) (m : ℕ) → AtMost a m → AtMost (earlier a b) m
least-left None b m h = absurd h
least-left (Some n) None m h = h
least-left (Some n) (Some k) m h = let h : n ≤ m = h in omega (arith, h)

least-right : (a b : Option ℕ) (m : ℕ) → AtMost b m → AtMost (earlier a b) m
least-right None b m h = h
least-right (Some n) None m h = absurd h
least-right (Some n) (Some k) m h = let h : k ≤ m = h in omega (arith, h)

found-at : (n : ℕ) (r a s : Bool) → Least a s → r ≡ true → s ≡ false → AtMost (unset_at n r a) n
found-at n false a s m p q = absurd cc
found-at n true true s m p q = let t : s ≡ true = m refl in absurd cc
found-at n true false s m p q = omega arith

read-agrees : (n : ℕ) (r a s : Bool) (end : End) (w : Ways) → Least a s → ((m : ℕ) → AtMost (unset_at n r a) m → AtMost w.unset m) → ReadsUnset n r s end → Agrees w end
read-agrees n r a s end w m f (p, q, e) = subst (Agrees w) (sym e) (f n (found-at n r a s m p q))

least-or : (a s b : Bool) → Least a s → Least (a || b) (s || b)
least-or true s b m h = let t : s ≡ true = m refl in subst (λ v. (v || b) ≡ true) (sym t) refl
least-or false true b m h = refl
least-or false false b m h = h

either-left : (t : Option ℕ) (a b : Ways) (end : End) → Agrees a end → Agrees (either t a b) end
either-left t a b (Behind s) g = λ h. g (and_parts a.after b.after h).0
either-left t a b (Broken s) g = λ h. g (and_parts a.broken b.broken h).0
either-left t a b (Continued s) g = λ h. g (and_parts a.continued b.continued h).0
either-left t a b Returned g = tt
either-left t a b (Unset n) g = least-right t (earlier a.unset b.unset) n (least-left a.unset b.unset n g)

either-right : (t : Option ℕ) (a b : Ways) (end : End) → Agrees b end → Agrees (either t a b) end
either-right t a b (Behind s) g = λ h. g (and_parts a.after b.after h).1
either-right t a b (Broken s) g = λ h. g (and_parts a.broken b.broken h).1
either-right t a b (Continued s) g = λ h. g (and_parts a.continued b.continued h).1
either-right t a b Returned g = tt
either-right t a b (Unset n) g = least-right t (earlier a.unset b.unset) n (least-right a.unset b.unset n g)

follows-second : (a b : Ways) (end : End) → Agrees b end → Agrees (follows a b) end
follows-second a b (Behind s) g = λ h. g h
follows-second a b (Broken s) g = λ h. g (and_parts a.broken b.broken h).1
follows-second a b (Continued s) g = λ h. g (and_parts a.continued b.continued h).1
follows-second a b Returned g = tt
follows-second a b (Unset n) g = least-right a.unset b.unset n g

-- a statement that goes on to the next, or not
follows-then : (a b : Ways) (Next : Bool → End → Type 0) → ((s : Bool) (end : End) → Least a.after s → Next s end → Agrees b end) → (first end : End) → Agrees a first → Then Next first end → Agrees (follows a b) end
follows-then a b Next f (Behind s) end g o = follows-second a b end (f s end g o)
follows-then a b Next f (Broken s) end g o = subst (Agrees (follows a b)) (sym o) (λ h. g (and_parts a.broken b.broken h).0)
follows-then a b Next f (Continued s) end g o = subst (Agrees (follows a b)) (sym o) (λ h. g (and_parts a.continued b.continued h).0)
follows-then a b Next f Returned end g o = subst (Agrees (follows a b)) (sym o) tt
follows-then a b Next f (Unset n) end g o = subst (Agrees (follows a b)) (sym o) (least-left a.unset b.unset n g)

-- what is known of the parts of a loop, where a variable is set before it or not
record Parts (a : Bool) (b u : Ways) (Body Update : Bool → End → Type 0) : Type 1 where
  body : (s : Bool) (end : End) → Least a s → Body s end → Agrees b end
  update : (s : Bool) (end : End) → Least (b.after && b.continued) s → Update s end → Agrees u end
  again : Least a u.after

again-agrees : (w u : Ways) (Next : Bool → End → Type 0) → ((s : Bool) (end : End) → Least u.after s → Next s end → Agrees w end) → ((m : ℕ) → AtMost u.unset m → AtMost w.unset m) → (last end : End) → Agrees u last → Again Next last end → Agrees w end
again-agrees w u Next f k (Behind s) end g o = f s end g o
again-agrees w u Next f k (Broken s) end g o = absurd o
again-agrees w u Next f k (Continued s) end g o = absurd o
again-agrees w u Next f k Returned end g o = absurd o
again-agrees w u Next f k (Unset n) end g o = subst (Agrees w) (sym o) (k n g)

out-agrees : (t : Option ℕ) (always a : Bool) (b u : Ways) (Update : Bool → End → Type 0) → ((s : Bool) (end : End) → Least (b.after && b.continued) s → Update s end → Agrees (turns t always a b u) end) → (out end : End) → Agrees b out → OutOf Update out end → Agrees (turns t always a b u) end
out-agrees t always a b u Update f (Behind s) end g o = f s end (λ h. g (and_parts b.after b.continued h).0) o
out-agrees t always a b u Update f (Broken s) end g o = subst (Agrees (turns t always a b u)) (sym o) (λ h. g (and_parts (always || a) b.broken h).1)
out-agrees t always a b u Update f (Continued s) end g o = f s end (λ h. g (and_parts b.after b.continued h).1) o
out-agrees t always a b u Update f Returned end g o = subst (Agrees (turns t always a b u)) (sym o) tt
out-agrees t always a b u Update f (Unset n) end g o = subst (Agrees (turns t always a b u)) (sym o) (least-right t (earlier b.unset u.unset) n (least-left b.unset u.unset n g))

left-at-test : (always a s : Bool) (broken : Bool) → always ≡ false → Least a s → Least ((always || a) && broken) s
left-at-test true a s broken p m h = cc
left-at-test false a s broken p m h = m (and_parts a broken h).0

turns-agree : (n : ℕ) (is_read always a : Bool) (b u : Ways) (Body Update : Bool → End → Type 0) → Parts a b u Body Update → (k : ℕ) (s : Bool) (end : End) → Least a s → Turns n is_read always Body Update k s end → Agrees (turns (unset_at n is_read a) always a b u) end
turns-agree n is_read always a b u Body Update p zero s end m (inl h) =
    read-agrees n is_read a s end (turns (unset_at n is_read a) always a b u) m (λ k h. least-left (unset_at n is_read a) (earlier b.unset u.unset) k h) h
turns-agree n is_read always a b u Body Update p zero s end m (inr h) = subst (Agrees (turns (unset_at n is_read a) always a b u)) (sym h.1) (left-at-test always a s b.broken h.0 m)
turns-agree n is_read always a b u Body Update p (suc k) s end m (out, g, o) =
    out-agrees (unset_at n is_read a) always a b u (λ s out. (last : End) × Update s last × Again (λ t last. Turns n is_read always Body Update k t last) last out)
    (λ s1 end1 m1 (last, g1, o1). again-agrees (turns (unset_at n is_read a) always a b u) u (λ t last. Turns n is_read always Body Update k t last)
    (λ s2 end2 m2 o2. turns-agree n is_read always a b u Body Update p k s2 end2 (λ h. m2 (p.again h)) o2)
    (λ k h. least-right (unset_at n is_read a) (earlier b.unset u.unset) k (least-right b.unset u.unset k h))
    last end1 (p.update s1 last m1 g1) o1)
    out end (p.body s out m g) o

mutual
  goes-agrees : (x : ℕ) (a s : Bool) (st : Statement) (end : End) → Least a s → Goes x s st end → Agrees (ways x a st) end
  goes-agrees x a s (Set n y e) end m (inl r) = read-agrees n (reads x e) a s end (ways x a (Set n y e)) m (λ k h. h) r
  goes-agrees x a s (Set n y e) end m (inr q) = subst (Agrees (ways x a (Set n y e))) (sym q) (least-or a s (nat_eq y x) m)
  goes-agrees x a s (Store n c site k e) end m (inl r) = read-agrees n (reads x k || reads x e) a s end (ways x a (Store n c site k e)) m (λ k h. h) r
  goes-agrees x a s (Store n c site k e) end m (inr q) = subst (Agrees (ways x a (Store n c site k e))) (sym q) m
  goes-agrees x a s (If n e taken skipped) end m (inl r) =
      read-agrees n (reads x e) a s end (ways x a (If n e taken skipped)) m (λ k h. least-left (unset_at n (reads x e) a) (earlier (all_ways x a taken).unset (all_ways x a skipped).unset) k h) r
  goes-agrees x a s (If n e taken skipped) end m (inr (inl g)) =
      either-left (unset_at n (reads x e) a) (all_ways x a taken) (all_ways x a skipped) end (all-agree x a s taken end m g)
  goes-agrees x a s (If n e taken skipped) end m (inr (inr g)) =
      either-right (unset_at n (reads x e) a) (all_ways x a taken) (all_ways x a skipped) end (all-agree x a s skipped end m g)
  goes-agrees x a s (Loop n e body update) end m (k, g) =
      let b : Ways = all_ways x a body in
      let u : Ways = all_ways x (b.after && b.continued) update in
      let parts : Parts a b u (λ s b. AllGo x s body b) (λ s u. AllGo x s update u) = record {
        body = λ s end m g. all-agree x a s body end m g;
        update = λ s end m g. all-agree x (b.after && b.continued) s update end m g;
        again = λ h. let f = all-stay x a body h in (all-stay x (b.after && b.continued) update (true-and b.after b.continued f.after f.continued)).after;
      } in
      turns-agree n (reads x e) (is_always e) a b u (λ s b. AllGo x s body b) (λ s u. AllGo x s update u) parts k s end m g
  goes-agrees x a s (Barrier n l c) end m q = subst (Agrees (ways x a (Barrier n l c))) (sym q) m
  goes-agrees x a s (Return n) end m q = subst (Agrees (ways x a (Return n))) (sym q) tt
  goes-agrees x a s (Break n loop) end m q = subst (Agrees (ways x a (Break n loop))) (sym q) m
  goes-agrees x a s (Continue n loop) end m q = subst (Agrees (ways x a (Continue n loop))) (sym q) m

  all-agree : (x : ℕ) (a s : Bool) (ss : Statements) (end : End) → Least a s → AllGo x s ss end → Agrees (all_ways x a ss) end
  all-agree x a s none end m q = subst (Agrees (steps None a)) (sym q) m
  all-agree x a s (one st ss) end m (first, g, o) =
      let w : Ways = ways x a st in
      follows-then w (all_ways x w.after ss) (λ t last. AllGo x t ss last) (λ s1 end1 m1 g1. all-agree x w.after s1 ss end1 m1 g1) first end (goes-agrees x a s st first m g) o

found-among : (ss : Statements) (first count i m : ℕ) → i < count → AtMost (all_ways (first + i) false ss).unset m → AtMost (unset_among ss first count) m
found-among ss first zero i m l h = absurd (omega (arith, l))
found-among ss first (suc n) i m l h = by (nat_eq i n) refl (λ (k : i < n). found-among ss first n i m k h)
  where
    by : (b : Bool) → nat_eq i n ≡ b → (i < n → AtMost (unset_among ss first n) m) → AtMost (unset_among ss first (suc n)) m
    by true e f =
        let j : i ≡ n = eqb-true i n e in
        least-right (unset_among ss first n) (all_ways (first + n) false ss).unset m (subst (λ j. AtMost (all_ways (first + j) false ss).unset m) j h)
    by false e f =
        let j : i ≡ n → ⊥ = eqb-false i n e in
        least-left (unset_among ss first n) (all_ways (first + n) false ss).unset m (f (omega (arith, l, j)))

found : (k : Kernel) (i m : ℕ) → i < length k.variables → AllGo (length k.arguments + i) false k.body (Unset m) → AtMost (first_unset k) m
found k i m l g = found-among k.body (length k.arguments) (length k.variables) i m l (all-agree (length k.arguments + i) false false k.body (Unset m) (λ e. e) g)

some-number : (o : Option ℕ) (m : ℕ) → AtMost o m → (n : ℕ) × (o ≡ Some n) × (n ≤ m)
some-number None m h = absurd h
some-number (Some n) m h = (n, refl, h)

pub path-found : (k : Kernel) (i m : ℕ) → i < length k.variables → AllGo (length k.arguments + i) false k.body (Unset m) → (n : ℕ) × (first_unset k ≡ Some n) × (n ≤ m)
path-found k i m l g = some-number (first_unset k) m (found k i m l g)

pub none-unset : (k : Kernel) → first_unset k ≡ None → (i : ℕ) → i < length k.variables → (n : ℕ) → AllGo (length k.arguments + i) false k.body (Unset n) → ⊥
none-unset k h i l n g = subst (λ o. AtMost o n) h (found k i n l g)
