-- What stands at a place of several paths.
use Rattle.std.proofs.Common.{◌≡◌, ℕ, zero, suc, ◌+◌, ◌-◌, ◌<◌, ◌≤◌, List, [], ◌∷◌, ◌++◌, map, length, get_or, refl, sym, ap, ◌∙◌, subst, arith, ◌⊎◌, inl, inr}
use Rattle.std.proofs.lemmas.Bool.{cases_lt}
use Rattle.std.proofs.lemmas.List.{length-append, get_or_append_left, get_or-append-add}
use Rattle.two_thread.specs.Places.{row, rows, joined}
use Rattle.two_thread.specs.declared.on_path.OnPath.{OnPath}

length-row : (p i n : ℕ) → length (row p i n) ≡ n
length-row p i zero = refl
length-row p i (suc n) = ap suc (length-row p (suc i) n)

nth-row : (p i n j : ℕ) (d : OnPath) → j < n → get_or (row p i n) j d ≡ record { path = p; item = i + j }
nth-row p i zero j d h = absurd (omega arith)
nth-row p i (suc n) zero d h = let e : i ≡ i + 0 = omega arith in ap (λ k. record { path = p; item = k }) e
nth-row p i (suc n) (suc j) d h = let e : suc i + j ≡ i + suc j = omega arith in nth-row p (suc i) n j d (omega arith) ∙ ap (λ k. record { path = p; item = k }) e

no_more : (n : ℕ) → 0 + n ≡ n
no_more n = omega arith

module _ {P X : Type 0} (count : P → ℕ) (seen : P → List X) (counts : (p : P) → length (seen p) ≡ count p) (past : X) where
  -- a place of paths from the path `base` on
  pub record Located (ps : List P) (base i : ℕ) (place : OnPath) : Type 0 where
    pub first : base ≤ place.path
    pub last : place.path < base + length ps
    pub inside : (p : P) → p ≡ get_or ps (place.path - base) p → (place.item < count p) × (get_or (seen p) place.item past ≡ get_or (joined (map seen ps)) i past)

  here : (q : P) (ps : List P) (base i : ℕ) → i < count q → Located (q ∷ ps) base i (record { path = base; item = i })
  here q ps base i h = record { first = omega arith; last = omega arith; inside = λ p e. of p (e ∙ ap (λ k. get_or (q ∷ ps) k p) (none base)) }
    where
      none : (n : ℕ) → n - n ≡ 0
      none n = omega arith

      of : (p : P) → p ≡ q → (i < count p) × (get_or (seen p) i past ≡ get_or (seen q ++ joined (map seen ps)) i past)
      of p e = subst (λ r. (i < count r) × (get_or (seen r) i past ≡ get_or (seen q ++ joined (map seen ps)) i past)) (sym e)
          (h, sym (get_or_append_left (seen q) (joined (map seen ps)) past i (let c = counts q in omega (arith, c, h))))

  later : (q : P) (ps : List P) (base i n : ℕ) (place : OnPath) → n ≡ count q + i → Located ps (suc base) i place → Located (q ∷ ps) base n place
  later q ps base i n place e l = record { first = omega (arith, l.first); last = omega (arith, l.last); inside = λ p d. of p (d ∙ ap (λ k. get_or (q ∷ ps) k p) (less place.path base l.first)) }
    where
      less : (a b : ℕ) → suc b ≤ a → a - b ≡ suc (a - suc b)
      less a b h = omega arith

      all : get_or (joined (map seen ps)) i past ≡ get_or (seen q ++ joined (map seen ps)) n past
      all = sym (get_or-append-add (seen q) (joined (map seen ps)) i past) ∙ ap (λ k. get_or (seen q ++ joined (map seen ps)) k past) (ap (λ k. k + i) (counts q) ∙ sym e)

      of : (p : P) → p ≡ get_or ps (place.path - suc base) p → (place.item < count p) × (get_or (seen p) place.item past ≡ get_or (seen q ++ joined (map seen ps)) n past)
      of p d = let m = l.inside p d in (m.0, m.1 ∙ all)

  pub located : (ps : List P) (base i : ℕ) (d : OnPath) → i < length (rows base (map count ps)) → Located ps base i (get_or (rows base (map count ps)) i d)
  located [] base i d h = absurd (omega arith)
  located (q ∷ ps) base i d h = by (λ j k. located ps (suc base) j d k) (cases_lt i (count q))
    where
      by : ((j : ℕ) → j < length (rows (suc base) (map count ps)) → Located ps (suc base) j (get_or (rows (suc base) (map count ps)) j d)) → (i < count q) ⊎ (count q ≤ i) → Located (q ∷ ps) base i (get_or (row base 0 (count q) ++ rows (suc base) (map count ps)) i d)
      by rest (inl l) =
          let e = get_or_append_left (row base 0 (count q)) (rows (suc base) (map count ps)) d i (let c = length-row base 0 (count q) in omega (arith, c, l)) in
          subst (Located (q ∷ ps) base i) (sym (e ∙ nth-row base 0 (count q) i d l ∙ ap (λ k. record { path = base; item = k }) (no_more i))) (here q ps base i l)
      by rest (inr l) =
          let j = i - count q in
          let s : count q + j ≡ i = omega (arith, l) in
          let m : length (row base 0 (count q) ++ rows (suc base) (map count ps)) ≡ count q + length (rows (suc base) (map count ps)) = length-append (row base 0 (count q)) (rows (suc base) (map count ps)) ∙ ap (λ k. k + length (rows (suc base) (map count ps))) (length-row base 0 (count q)) in
          let e = get_or-append-add (row base 0 (count q)) (rows (suc base) (map count ps)) j d in
          let f : get_or (rows (suc base) (map count ps)) j d ≡ get_or (row base 0 (count q) ++ rows (suc base) (map count ps)) i d = sym e ∙ ap (λ k. get_or (row base 0 (count q) ++ rows (suc base) (map count ps)) k d) (ap (λ k. k + j) (length-row base 0 (count q)) ∙ s) in
          subst (Located (q ∷ ps) base i) f (later q ps base j i _ (sym s) (rest j (omega (arith, m, h, s))))

  pub located-length : (ps : List P) (base : ℕ) → length (rows base (map count ps)) ≡ length (joined (map seen ps))
  located-length [] base = refl
  located-length (q ∷ ps) base =
      length-append (row base 0 (count q)) (rows (suc base) (map count ps)) ∙ ap (λ k. k + length (rows (suc base) (map count ps))) (length-row base 0 (count q) ∙ sym (counts q))
      ∙ ap (λ k. length (seen q) + k) (located-length ps (suc base)) ∙ sym (length-append (seen q) (joined (map seen ps)))
