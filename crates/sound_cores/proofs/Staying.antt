-- A variable that is set stays so, and is not read unset.
use Rattle.std.proofs.Common.{◌≡◌, ℕ, Bool, true, false, ◌&&◌, ◌||◌, nat_eq, refl, sym, subst}
use Rattle.std.specs.Prelude.{Option, Some, None}
use Rattle.semantics.specs.Core.{Statement, Set, Store, If, Loop, Barrier, Return, Break, Continue, Statements, none, one}
use Rattle.sound_cores.specs.Unset.{Ways, reads, is_always, earlier, unset_at, ways, all_ways}

pub record Stays (w : Ways) : Type 0 where
  pub after : w.after ≡ true
  pub broken : w.broken ≡ true
  pub continued : w.continued ≡ true

pub true-and : (a b : Bool) → a ≡ true → b ≡ true → (a && b) ≡ true
true-and true b p q = q
true-and false b p q = cc

or-true : (a : Bool) → (a || true) ≡ true
or-true true = refl
or-true false = refl

mutual
  stays : (x : ℕ) (a : Bool) (s : Statement) → a ≡ true → Stays (ways x a s)
  stays x a (Set n y e) h = record { after = subst (λ v. (v || nat_eq y x) ≡ true) (sym h) refl; broken = refl; continued = refl }
  stays x a (Store n c site k e) h = record { after = h; broken = refl; continued = refl }
  stays x a (If n e taken skipped) h =
      let t = all-stay x a taken h in
      let f = all-stay x a skipped h in
      record {
        after = true-and (all_ways x a taken).after (all_ways x a skipped).after t.after f.after;
        broken = true-and (all_ways x a taken).broken (all_ways x a skipped).broken t.broken f.broken;
        continued = true-and (all_ways x a taken).continued (all_ways x a skipped).continued t.continued f.continued;
      }
  stays x a (Loop n e body update) h =
      let b = all-stay x a body h in
      record {
        after = true-and (is_always e || a) (all_ways x a body).broken (subst (λ v. (is_always e || v) ≡ true) (sym h) (or-true (is_always e))) b.broken;
        broken = refl;
        continued = refl;
      }
  stays x a (Barrier n l g) h = record { after = h; broken = refl; continued = refl }
  stays x a (Return n) h = record { after = refl; broken = refl; continued = refl }
  stays x a (Break n loop) h = record { after = refl; broken = h; continued = refl }
  stays x a (Continue n loop) h = record { after = refl; broken = refl; continued = h }

  pub all-stay : (x : ℕ) (a : Bool) (ss : Statements) → a ≡ true → Stays (all_ways x a ss)
  all-stay x a none h = record { after = h; broken = refl; continued = refl }
  all-stay x a (one s ss) h =
      let f = stays x a s h in
      let r = all-stay x (ways x a s).after ss f.after in
      record {
        after = r.after;
        broken = true-and (ways x a s).broken (all_ways x (ways x a s).after ss).broken f.broken r.broken;
        continued = true-and (ways x a s).continued (all_ways x (ways x a s).after ss).continued f.continued r.continued;
      }

quiet-at : (n : ℕ) (r a : Bool) → a ≡ true → unset_at n r a ≡ None
quiet-at n true true h = refl
quiet-at n true false h = cc
quiet-at n false a h = refl

quiet-two : (a b : Option ℕ) → a ≡ None → b ≡ None → earlier a b ≡ None
quiet-two None b p q = q
quiet-two (Some n) b p q = cc

mutual
  quiet : (x : ℕ) (a : Bool) (s : Statement) → a ≡ true → (ways x a s).unset ≡ None
  quiet x a (Set n y e) h = quiet-at n (reads x e) a h
  quiet x a (Store n c site k e) h = quiet-at n (reads x k || reads x e) a h
  quiet x a (If n e taken skipped) h =
      quiet-two (unset_at n (reads x e) a) (earlier (all_ways x a taken).unset (all_ways x a skipped).unset) (quiet-at n (reads x e) a h)
      (quiet-two (all_ways x a taken).unset (all_ways x a skipped).unset (all-quiet x a taken h) (all-quiet x a skipped h))
  quiet x a (Loop n e body update) h =
      let b : Ways = all_ways x a body in
      let f = all-stay x a body h in
      let u : Ways = all_ways x (b.after && b.continued) update in
      quiet-two (unset_at n (reads x e) a) (earlier b.unset u.unset) (quiet-at n (reads x e) a h)
      (quiet-two b.unset u.unset (all-quiet x a body h) (all-quiet x (b.after && b.continued) update (true-and b.after b.continued f.after f.continued)))
  quiet x a (Barrier n l g) h = refl
  quiet x a (Return n) h = refl
  quiet x a (Break n loop) h = refl
  quiet x a (Continue n loop) h = refl

  pub all-quiet : (x : ℕ) (a : Bool) (ss : Statements) → a ≡ true → (all_ways x a ss).unset ≡ None
  all-quiet x a none h = refl
  all-quiet x a (one s ss) h =
      quiet-two (ways x a s).unset (all_ways x (ways x a s).after ss).unset (quiet x a s h) (all-quiet x (ways x a s).after ss (stays x a s h).after)
