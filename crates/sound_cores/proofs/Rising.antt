-- Statements that are numbered in the order in which they stand: no number stands twice.
use Rattle.std.proofs.Common.{◌≡◌, ℕ, ◌+◌, ◌≤◌, ◌<◌, List, [], ◌∷◌, ◌++◌, Bool, true, false, nat_lt, cond, arith, refl, sym, subst, inl, inr}
use Rattle.std.specs.Prelude.{Option, Some, None}
use Rattle.std.proofs.lemmas.Bool.{ltb-false}
use Rattle.semantics.specs.Core.{Statement, Set, Store, If, Loop, Barrier, Return, Break, Continue, Statements, none, one}
use Rattle.arrivals.specs.Points.{Has}
use Rattle.sound_cores.specs.Told.{numbers_of, numbers_in, NoneTwice}
use Rattle.sound_cores.specs.Sound.{after, then, numbered, all_numbered}
use Rattle.sound_cores.proofs.Lists.{once-join, both-have}

abbrev pub IsFrom : (low high : ℕ) → ℕ → Type 0
IsFrom low high k = (low ≤ k) × (k < high)

-- numbers that lie from `low` to below `high`, none twice
pub record Rises (low high : ℕ) (ns : List ℕ) : Type 0 where
  pub upward : low ≤ high
  pub lie : (k : ℕ) → Has k ns → IsFrom low high k
  pub once : NoneTwice ns

rises-nothing : (n : ℕ) → Rises n n []
rises-nothing n = record { upward = omega arith; lie = λ k m. absurd m; once = tt }

just : (low n : ℕ) → low ≤ n → (k : ℕ) → Has k (n ∷ []) → IsFrom low (n + 1) k
just low n a k (inl e) = subst (IsFrom low (n + 1)) (sym e) (a, omega arith)
just low n a k (inr h) = absurd h

rises-just : (low n : ℕ) → low ≤ n → Rises low (n + 1) (n ∷ [])
rises-just low n a = record { upward = omega (arith, a); lie = just low n a; once = ((λ m. m), tt) }

rises-join : (low middle high : ℕ) (xs ys : List ℕ) → Rises low middle xs → Rises middle high ys → Rises low high (xs ++ ys)
rises-join low middle high xs ys a b = record {
  upward = omega (arith, a.upward, b.upward);
  lie = both-have (IsFrom low high) xs ys
      (λ k m. let f = a.lie k m in (f.0, omega (arith, f.1, b.upward)))
      (λ k m. let f = b.lie k m in (omega (arith, f.0, a.upward), f.1));
  once = once-join xs ys a.once b.once (λ k x y. let f = a.lie k x in let g = b.lie k y in omega (arith, f.1, g.0));
}

-- what stands behind
pub then-some : (o : Option ℕ) (go : ℕ → Option ℕ) (high : ℕ) → then o go ≡ Some high → (n : ℕ) × (o ≡ Some n) × (go n ≡ Some high)
then-some None go high e = absurd cc
then-some (Some n) go high e = (n, refl, e)

after-by : (b : Bool) (next n high : ℕ) → nat_lt n next ≡ b → cond b None (Some (n + 1)) ≡ Some high → (next ≤ n) × (high ≡ n + 1)
after-by true next n high p e = absurd cc
after-by false next n high p e = let q : n + 1 ≡ high = cc in (ltb-false n next p, sym q)

pub after-some : (next n high : ℕ) → after next n ≡ Some high → (next ≤ n) × (high ≡ n + 1)
after-some next n high e = after-by (nat_lt n next) next n high refl e

alone : (next n high : ℕ) → after next n ≡ Some high → Rises next high (n ∷ [])
alone next n high e = let f = after-some next n high e in subst (λ h. Rises next h (n ∷ [])) (sym f.1) (rises-just next n f.0)

-- a number, and then two lists
within : (next n i j high : ℕ) (xs ys : List ℕ) → after next n ≡ Some i → Rises i j xs → Rises j high ys → Rises next high (n ∷ (xs ++ ys))
within next n i j high xs ys e a b = rises-join next i high (n ∷ []) (xs ++ ys) (alone next n i e) (rises-join i j high xs ys a b)

mutual
  pub numbered-rises : (next high : ℕ) (s : Statement) → numbered next s ≡ Some high → Rises next high (numbers_of s)
  numbered-rises next high (Set n x e) h = alone next n high h
  numbered-rises next high (Store n a site k e) h = alone next n high h
  numbered-rises next high (If n e taken skipped) h =
      let f = then-some (after next n) (λ i. then (all_numbered i taken) (λ j. all_numbered j skipped)) high h in
      let g = then-some (all_numbered f.0 taken) (λ j. all_numbered j skipped) high f.2 in
      within next n f.0 g.0 high (numbers_in taken) (numbers_in skipped) f.1 (all-numbered-rises f.0 g.0 taken g.1) (all-numbered-rises g.0 high skipped g.2)
  numbered-rises next high (Loop n e body update) h =
      let f = then-some (after next n) (λ i. then (all_numbered i body) (λ j. all_numbered j update)) high h in
      let g = then-some (all_numbered f.0 body) (λ j. all_numbered j update) high f.2 in
      within next n f.0 g.0 high (numbers_in body) (numbers_in update) f.1 (all-numbered-rises f.0 g.0 body g.1) (all-numbered-rises g.0 high update g.2)
  numbered-rises next high (Barrier n l g) h = alone next n high h
  numbered-rises next high (Return n) h = alone next n high h
  numbered-rises next high (Break n loop) h = alone next n high h
  numbered-rises next high (Continue n loop) h = alone next n high h

  pub all-numbered-rises : (next high : ℕ) (ss : Statements) → all_numbered next ss ≡ Some high → Rises next high (numbers_in ss)
  all-numbered-rises next high none h = let e : next ≡ high = cc in subst (λ k. Rises next k []) e (rises-nothing next)
  all-numbered-rises next high (one s ss) h =
      let f = then-some (numbered next s) (λ i. all_numbered i ss) high h in
      rises-join next f.0 high (numbers_of s) (numbers_in ss) (numbered-rises next f.0 s f.1) (all-numbered-rises f.0 high ss f.2)
