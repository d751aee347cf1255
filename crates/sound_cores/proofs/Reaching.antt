-- Where a statement is found that may read a variable unset, a path does.
use Rattle.std.proofs.Common.{◌≡◌, ℕ, zero, suc, ◌+◌, ◌<◌, Bool, true, false, ◌&&◌, ◌||◌, min, refl, sym, ap, ◌∙◌, arith, inl, inr, length}
use Rattle.std.specs.Prelude.{Option, Some, None, ◌⊎◌}
use Rattle.semantics.specs.Core.{Term, Statement, Set, Store, If, Loop, Barrier, Return, Break, Continue, Statements, none, one}
use Rattle.semantics.specs.Launch.{Kernel}
use Rattle.sound_cores.specs.Unset.{Ways, reads, is_always, earlier, unset_at, ways, all_ways, unset_among, first_unset}
use Rattle.sound_cores.proofs.Staying.{all-stay, all-quiet}
use Rattle.sound_cores.specs.Paths.{End, Behind, Broken, Continued, Unset, ReadsUnset, Turns, Goes, AllGo}

-- the less of two numbers is one of them
one-of : (a b : Option ℕ) (n : ℕ) → earlier a b ≡ Some n → (a ≡ Some n) ⊎ (b ≡ Some n)
one-of None b n h = inr h
one-of (Some m) None n h = inl h
one-of (Some m) (Some k) n h = by (least m k)
  where
    least : (m k : ℕ) → (min m k ≡ m) ⊎ (min m k ≡ k)
    least m k = grind arith

    by : (min m k ≡ m) ⊎ (min m k ≡ k) → (Some m ≡ Some n) ⊎ (Some k ≡ Some n)
    by (inl e) = inl (ap Some (sym e) ∙ h)
    by (inr e) = inr (ap Some (sym e) ∙ h)

a-read : (n m : ℕ) (r a : Bool) → unset_at n r a ≡ Some m → ReadsUnset n r a (Unset m)
a-read n m false a h = absurd cc
a-read n m true true h = absurd cc
a-read n m true false h = let e : n ≡ m = cc in (refl, refl, ap Unset (sym e))

one-false : (a b : Bool) → (a && b) ≡ false → (a ≡ false) ⊎ (b ≡ false)
one-false true b h = inr h
one-false false b h = inl refl

or-left-false : (a b : Bool) → (a || b) ≡ false → a ≡ false
or-left-false true b h = absurd cc
or-left-false false b h = refl

or-right-false : (a b : Bool) → (a || b) ≡ false → b ≡ false
or-right-false true b h = absurd cc
or-right-false false b h = h

-- paths from where the variable is not set, for what the ways say is not set, and for what is read unset
record Reached (w : Ways) (Path : End → Type 0) : Type 0 where
  after : w.after ≡ false → Path (Behind false)
  broken : w.broken ≡ false → Path (Broken false)
  continued : w.continued ≡ false → Path (Continued false)
  unset : (n : ℕ) → w.unset ≡ Some n → Path (Unset n)

-- on to what follows, from where the variable is not set
behind : (x : ℕ) (a : Bool) (st : Statement) (ss : Statements) (end : End) (b : Bool) → (ways x a st).after ≡ b → Reached (ways x a st) (Goes x a st) → (b ≡ true → ⊥) → AllGo x b ss end → AllGo x a (one st ss) end
behind x a st ss end true e r h g = absurd (h refl)
behind x a st ss end false e r h g = (Behind false, r.after e, g)

true-false : (a : Bool) → a ≡ true → a ≡ false → ⊥
true-false true p q = cc
true-false false p q = cc

none-some : (o : Option ℕ) (n : ℕ) → o ≡ None → o ≡ Some n → ⊥
none-some None n p q = cc
none-some (Some m) n p q = cc

-- to the update from behind the body, or from a `continue`
to-update : (n : ℕ) (is_read always a : Bool) (b : Ways) (Body Update : Bool → End → Type 0) (m : ℕ) (c : Bool) → (b.after && b.continued) ≡ c → Reached b (Body a) → (c ≡ true → ⊥) → Update c (Unset m)
    → (k : ℕ) × Turns n is_read always Body Update k a (Unset m)
to-update n is_read always a b Body Update m true e r h g = absurd (h refl)
to-update n is_read always a b Body Update m false e r h g = by (one-false b.after b.continued e)
  where
    by : (b.after ≡ false) ⊎ (b.continued ≡ false) → (k : ℕ) × Turns n is_read always Body Update k a (Unset m)
    by (inl p) = (1, (Behind false, r.after p, (Unset m, g, refl)))
    by (inr p) = (1, (Continued false, r.continued p, (Unset m, g, refl)))

loop-reached : (x : ℕ) (a : Bool) (n : ℕ) (e : Term) (body update : Statements) → Reached (all_ways x a body) (AllGo x a body)
    → Reached (all_ways x ((all_ways x a body).after && (all_ways x a body).continued) update) (AllGo x ((all_ways x a body).after && (all_ways x a body).continued) update)
    → Reached (ways x a (Loop n e body update)) (Goes x a (Loop n e body update))
loop-reached x a n e body update rb ru = record {
  after = λ h. by-after (one-false (is_always e || a) (all_ways x a body).broken h);
  broken = λ h. absurd (true-false true refl h);
  continued = λ h. absurd (true-false true refl h);
  unset = λ m h. by-unset m (one-of (unset_at n (reads x e) a) (earlier (all_ways x a body).unset (all_ways x ((all_ways x a body).after && (all_ways x a body).continued) update).unset) m h);
}
  where
    by-after : ((is_always e || a) ≡ false) ⊎ ((all_ways x a body).broken ≡ false) → Goes x a (Loop n e body update) (Behind false)
    by-after (inl p) = (0, inr (or-left-false (is_always e) a p, ap Behind (sym (or-right-false (is_always e) a p))))
    by-after (inr p) = (1, (Broken false, rb.broken p, refl))

    by-part : (m : ℕ) → ((all_ways x a body).unset ≡ Some m) ⊎ ((all_ways x ((all_ways x a body).after && (all_ways x a body).continued) update).unset ≡ Some m) → Goes x a (Loop n e body update) (Unset m)
    by-part m (inl p) = (1, (Unset m, rb.unset m p, refl))
    by-part m (inr p) =
        to-update n (reads x e) (is_always e) a (all_ways x a body) (λ s b. AllGo x s body b) (λ s u. AllGo x s update u) m ((all_ways x a body).after && (all_ways x a body).continued) refl rb
        (λ h. none-some _ m (all-quiet x ((all_ways x a body).after && (all_ways x a body).continued) update h) p) (ru.unset m p)

    by-unset : (m : ℕ) → (unset_at n (reads x e) a ≡ Some m) ⊎ (earlier (all_ways x a body).unset (all_ways x ((all_ways x a body).after && (all_ways x a body).continued) update).unset ≡ Some m) → Goes x a (Loop n e body update) (Unset m)
    by-unset m (inl p) = (0, inl (a-read n m (reads x e) a p))
    by-unset m (inr p) = by-part m (one-of (all_ways x a body).unset (all_ways x ((all_ways x a body).after && (all_ways x a body).continued) update).unset m p)

one-reached : (x : ℕ) (a : Bool) (st : Statement) (ss : Statements) → Reached (ways x a st) (Goes x a st) → Reached (all_ways x (ways x a st).after ss) (AllGo x (ways x a st).after ss) → Reached (all_ways x a (one st ss)) (AllGo x a (one st ss))
one-reached x a st ss r q = record {
  after = λ h. on (Behind false) (λ e. true-false _ (all-stay x (ways x a st).after ss e).after h) (q.after h);
  broken = λ h. by-broken (one-false (ways x a st).broken (all_ways x (ways x a st).after ss).broken h);
  continued = λ h. by-continued (one-false (ways x a st).continued (all_ways x (ways x a st).after ss).continued h);
  unset = λ m h. by-unset m (one-of (ways x a st).unset (all_ways x (ways x a st).after ss).unset m h);
}
  where
    on : (end : End) → ((ways x a st).after ≡ true → ⊥) → AllGo x (ways x a st).after ss end → AllGo x a (one st ss) end
    on end h g = behind x a st ss end (ways x a st).after refl r h g

    by-broken : ((ways x a st).broken ≡ false) ⊎ ((all_ways x (ways x a st).after ss).broken ≡ false) → AllGo x a (one st ss) (Broken false)
    by-broken (inl p) = (Broken false, r.broken p, refl)
    by-broken (inr p) = on (Broken false) (λ e. true-false _ (all-stay x (ways x a st).after ss e).broken p) (q.broken p)

    by-continued : ((ways x a st).continued ≡ false) ⊎ ((all_ways x (ways x a st).after ss).continued ≡ false) → AllGo x a (one st ss) (Continued false)
    by-continued (inl p) = (Continued false, r.continued p, refl)
    by-continued (inr p) = on (Continued false) (λ e. true-false _ (all-stay x (ways x a st).after ss e).continued p) (q.continued p)

    by-unset : (m : ℕ) → ((ways x a st).unset ≡ Some m) ⊎ ((all_ways x (ways x a st).after ss).unset ≡ Some m) → AllGo x a (one st ss) (Unset m)
    by-unset m (inl p) = (Unset m, r.unset m p, refl)
    by-unset m (inr p) = on (Unset m) (λ e. none-some _ m (all-quiet x (ways x a st).after ss e) p) (q.unset m p)

if-reached : (x : ℕ) (a : Bool) (n : ℕ) (e : Term) (taken skipped : Statements) → Reached (all_ways x a taken) (AllGo x a taken) → Reached (all_ways x a skipped) (AllGo x a skipped)
    → Reached (ways x a (If n e taken skipped)) (Goes x a (If n e taken skipped))
if-reached x a n e taken skipped t f = record {
  after = λ h. by-after (one-false (all_ways x a taken).after (all_ways x a skipped).after h);
  broken = λ h. by-broken (one-false (all_ways x a taken).broken (all_ways x a skipped).broken h);
  continued = λ h. by-continued (one-false (all_ways x a taken).continued (all_ways x a skipped).continued h);
  unset = λ m h. by-unset m (one-of (unset_at n (reads x e) a) (earlier (all_ways x a taken).unset (all_ways x a skipped).unset) m h);
}
  where
    by-after : ((all_ways x a taken).after ≡ false) ⊎ ((all_ways x a skipped).after ≡ false) → Goes x a (If n e taken skipped) (Behind false)
    by-after (inl p) = inr (inl (t.after p))
    by-after (inr p) = inr (inr (f.after p))

    by-broken : ((all_ways x a taken).broken ≡ false) ⊎ ((all_ways x a skipped).broken ≡ false) → Goes x a (If n e taken skipped) (Broken false)
    by-broken (inl p) = inr (inl (t.broken p))
    by-broken (inr p) = inr (inr (f.broken p))

    by-continued : ((all_ways x a taken).continued ≡ false) ⊎ ((all_ways x a skipped).continued ≡ false) → Goes x a (If n e taken skipped) (Continued false)
    by-continued (inl p) = inr (inl (t.continued p))
    by-continued (inr p) = inr (inr (f.continued p))

    by-part : (m : ℕ) → ((all_ways x a taken).unset ≡ Some m) ⊎ ((all_ways x a skipped).unset ≡ Some m) → Goes x a (If n e taken skipped) (Unset m)
    by-part m (inl p) = inr (inl (t.unset m p))
    by-part m (inr p) = inr (inr (f.unset m p))

    by-unset : (m : ℕ) → (unset_at n (reads x e) a ≡ Some m) ⊎ (earlier (all_ways x a taken).unset (all_ways x a skipped).unset ≡ Some m) → Goes x a (If n e taken skipped) (Unset m)
    by-unset m (inl p) = inl (a-read n m (reads x e) a p)
    by-unset m (inr p) = by-part m (one-of (all_ways x a taken).unset (all_ways x a skipped).unset m p)

mutual
  reach : (x : ℕ) (a : Bool) (st : Statement) → Reached (ways x a st) (Goes x a st)
  reach x a (Set n y e) = record {
    after = λ h. inr (ap Behind (sym h));
    broken = λ h. absurd (true-false true refl h);
    continued = λ h. absurd (true-false true refl h);
    unset = λ m h. inl (a-read n m (reads x e) a h);
  }
  reach x a (Store n c site k e) = record {
    after = λ h. inr (ap Behind (sym h));
    broken = λ h. absurd (true-false true refl h);
    continued = λ h. absurd (true-false true refl h);
    unset = λ m h. inl (a-read n m (reads x k || reads x e) a h);
  }
  reach x a (If n e taken skipped) = if-reached x a n e taken skipped (all-reach x a taken) (all-reach x a skipped)
  reach x a (Loop n e body update) =
      loop-reached x a n e body update (all-reach x a body) (all-reach x ((all_ways x a body).after && (all_ways x a body).continued) update)
  reach x a (Barrier n l g) = record {
    after = λ h. ap Behind (sym h);
    broken = λ h. absurd (true-false true refl h);
    continued = λ h. absurd (true-false true refl h);
    unset = λ m h. absurd (none-some None m refl h);
  }
  reach x a (Return n) = record {
    after = λ h. absurd (true-false true refl h);
    broken = λ h. absurd (true-false true refl h);
    continued = λ h. absurd (true-false true refl h);
    unset = λ m h. absurd (none-some None m refl h);
  }
  reach x a (Break n loop) = record {
    after = λ h. absurd (true-false true refl h);
    broken = λ h. ap Broken (sym h);
    continued = λ h. absurd (true-false true refl h);
    unset = λ m h. absurd (none-some None m refl h);
  }
  reach x a (Continue n loop) = record {
    after = λ h. absurd (true-false true refl h);
    broken = λ h. absurd (true-false true refl h);
    continued = λ h. ap Continued (sym h);
    unset = λ m h. absurd (none-some None m refl h);
  }

  all-reach : (x : ℕ) (a : Bool) (ss : Statements) → Reached (all_ways x a ss) (AllGo x a ss)
  all-reach x a none = record {
    after = λ h. ap Behind (sym h);
    broken = λ h. absurd (true-false true refl h);
    continued = λ h. absurd (true-false true refl h);
    unset = λ m h. absurd (none-some None m refl h);
  }
  all-reach x a (one st ss) = one-reached x a st ss (reach x a st) (all-reach x (ways x a st).after ss)

some-among : (ss : Statements) (first count n : ℕ) → unset_among ss first count ≡ Some n → (i : ℕ) × (i < count) × ((all_ways (first + i) false ss).unset ≡ Some n)
some-among ss first zero n h = absurd (none-some None n refl h)
some-among ss first (suc k) n h = by (one-of (unset_among ss first k) (all_ways (first + k) false ss).unset n h) (λ (e : unset_among ss first k ≡ Some n). some-among ss first k n e)
  where
    by : (unset_among ss first k ≡ Some n) ⊎ ((all_ways (first + k) false ss).unset ≡ Some n) → (unset_among ss first k ≡ Some n → (i : ℕ) × (i < k) × ((all_ways (first + i) false ss).unset ≡ Some n))
        → (i : ℕ) × (i < suc k) × ((all_ways (first + i) false ss).unset ≡ Some n)
    by (inl e) f = let r = f e in (r.0, omega (arith, r.1), r.2)
    by (inr e) f = (k, omega arith, e)

pub some-unset : (k : Kernel) (n : ℕ) → first_unset k ≡ Some n → (i : ℕ) × (i < length k.variables) × AllGo (length k.arguments + i) false k.body (Unset n)
some-unset k n h =
    let r = some-among k.body (length k.arguments) (length k.variables) n h in
    (r.0, r.1, (all-reach (length k.arguments + r.0) false k.body).unset n r.2)
