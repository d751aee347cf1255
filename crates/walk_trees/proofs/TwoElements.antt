-- Elements of two items have the numbers of both.
use Rattle.std.proofs.Common.{◌≡◌, ◌≢◌, nat_eq, ℕ, zero, suc, ◌+◌, ◌-◌, ◌%◌, ◌/◌, ◌<◌, ◌≤◌, Bool, true, false, cond, nat_lt, List, [], ◌∷◌, arith, refl, sym, ap, subst, ◌∙◌, ltb-true, ltb-false}
use Rattle.std.specs.Prelude.{ℤ, pos, ◌+ℤ◌, ◌*ℤ◌}
use Rattle.std.proofs.lemmas.Int.{ints}
use Rattle.linear.specs.Linear.{Weighted, terms_value, value_of}
use Rattle.semantics.specs.Setup.{Setup, item_count}
use Rattle.std.proofs.lemmas.Bool.Decides.{nat_tests}
use Rattle.semantics.proofs.Integers.{mul_assoc}
use Rattle.linear.specs.Products.{factors, value_of_factors}
use Rattle.domain.specs.declared.Domain.{Ghosts}
use Rattle.facts.specs.Symbols.{Fact, of_family, symbol_of}
use Rattle.facts.specs.Launching.{known}
use Rattle.facts.proofs.Members.{Lawful, by_number, plain_number}
use Rattle.facts.proofs.Worlds.{Walked, Root, setup_of, meaning}
use Rattle.walk_trees.specs.Held.{Held, element_held, elements_from, elements_of_factors, terms_with, element_with}
use Rattle.walk_trees.specs.Seconds.{element_alone, element_of_factor, element_of_two}
use Rattle.walk_trees.proofs.Made.{IsFit}

-- where each symbol's number is a member of its element, a form's value is one of the form's element
module _ {E : Type 0} (g : Ghosts E) (laws : Lawful g) (element : ℕ → E) (v : ℕ → ℤ) (members : (n : ℕ) → g.has (element n) (v n) ≡ true) where
  terms-has : (so_far : E) (z : ℤ) (ts : List (Weighted ℕ)) → g.has so_far z ≡ true → g.has (terms_with g element so_far ts) (z +ℤ terms_value v ts) ≡ true
  terms-has so_far z [] h = subst (λ y. g.has so_far y ≡ true) (omega (arith, ints)) h
  terms-has so_far z (t ∷ ts) h =
      let x = t.coefficient *ℤ v t.symbol in
      let next = g.add_of so_far (g.mul_of (g.number_of t.coefficient) (element t.symbol)) in
      let one = laws.add so_far (g.mul_of (g.number_of t.coefficient) (element t.symbol)) z x h (laws.mul (g.number_of t.coefficient) (element t.symbol) t.coefficient (v t.symbol) (laws.number t.coefficient) (members t.symbol)) in
      subst (λ y. g.has (terms_with g element next ts) y ≡ true) (omega (arith, ints)) (terms-has next (z +ℤ x) ts one)

  pub element_with-has : (f : Fact) → g.has (element_with g element f) (value_of v f) ≡ true
  element_with-has f = subst (λ y. g.has (element_with g element f) y ≡ true) (omega (arith, ints)) (terms-has (g.number_of f.constant) f.constant f.terms (laws.number f.constant))

-- numbers of both are the first item's own, or the second one's
own-first : (s : Setup) (i j : ℕ) (root other : Root) (news more : List ℤ) (f k : ℕ) → (f + 1) % 16 < 10 → meaning s i j root other news more (of_family f k) ≡ meaning s i i root root news [] (of_family f k)
own-first s i j root other news more zero k h = refl
own-first s i j root other news more (suc zero) k h = refl
own-first s i j root other news more (suc (suc zero)) k h = refl
own-first s i j root other news more (suc (suc (suc zero))) k h = refl
own-first s i j root other news more (suc (suc (suc (suc zero)))) k h = refl
own-first s i j root other news more (suc (suc (suc (suc (suc zero))))) k h = refl
own-first s i j root other news more (suc (suc (suc (suc (suc (suc zero)))))) k h = refl
own-first s i j root other news more (suc (suc (suc (suc (suc (suc (suc zero))))))) k h = refl
own-first s i j root other news more (suc (suc (suc (suc (suc (suc (suc (suc zero)))))))) k h = refl
own-first s i j root other news more (suc (suc (suc (suc (suc (suc (suc (suc (suc zero))))))))) k h = absurd (omega (arith, h))
own-first s i j root other news more (suc (suc (suc (suc (suc (suc (suc (suc (suc (suc zero)))))))))) k h = absurd (omega (arith, h))
own-first s i j root other news more (suc (suc (suc (suc (suc (suc (suc (suc (suc (suc (suc zero))))))))))) k h = absurd (omega (arith, h))
own-first s i j root other news more (suc (suc (suc (suc (suc (suc (suc (suc (suc (suc (suc (suc zero)))))))))))) k h = absurd (omega (arith, h))
own-first s i j root other news more (suc (suc (suc (suc (suc (suc (suc (suc (suc (suc (suc (suc (suc zero))))))))))))) k h = absurd (omega (arith, h))
own-first s i j root other news more (suc (suc (suc (suc (suc (suc (suc (suc (suc (suc (suc (suc (suc (suc zero)))))))))))))) k h = absurd (omega (arith, h))
own-first s i j root other news more (suc (suc (suc (suc (suc (suc (suc (suc (suc (suc (suc (suc (suc (suc (suc f))))))))))))))) k h = refl

own-second : (s : Setup) (i j : ℕ) (root other : Root) (news more : List ℤ) (f k : ℕ) → 9 ≤ f → f < 15 → meaning s i j root other news more (of_family f k) ≡ meaning s j j other other more [] (of_family (f - 6) k)
own-second s i j root other news more zero k h l = absurd (omega arith)
own-second s i j root other news more (suc zero) k h l = absurd (omega arith)
own-second s i j root other news more (suc (suc zero)) k h l = absurd (omega arith)
own-second s i j root other news more (suc (suc (suc zero))) k h l = absurd (omega arith)
own-second s i j root other news more (suc (suc (suc (suc zero)))) k h l = absurd (omega arith)
own-second s i j root other news more (suc (suc (suc (suc (suc zero))))) k h l = absurd (omega arith)
own-second s i j root other news more (suc (suc (suc (suc (suc (suc zero)))))) k h l = absurd (omega arith)
own-second s i j root other news more (suc (suc (suc (suc (suc (suc (suc zero))))))) k h l = absurd (omega arith)
own-second s i j root other news more (suc (suc (suc (suc (suc (suc (suc (suc zero)))))))) k h l = absurd (omega arith)
own-second s i j root other news more (suc (suc (suc (suc (suc (suc (suc (suc (suc zero))))))))) k h l = refl
own-second s i j root other news more (suc (suc (suc (suc (suc (suc (suc (suc (suc (suc zero)))))))))) k h l = refl
own-second s i j root other news more (suc (suc (suc (suc (suc (suc (suc (suc (suc (suc (suc zero))))))))))) k h l = refl
own-second s i j root other news more (suc (suc (suc (suc (suc (suc (suc (suc (suc (suc (suc (suc zero)))))))))))) k h l = refl
own-second s i j root other news more (suc (suc (suc (suc (suc (suc (suc (suc (suc (suc (suc (suc (suc zero))))))))))))) k h l = refl
own-second s i j root other news more (suc (suc (suc (suc (suc (suc (suc (suc (suc (suc (suc (suc (suc (suc zero)))))))))))))) k h l = refl
own-second s i j root other news more (suc (suc (suc (suc (suc (suc (suc (suc (suc (suc (suc (suc (suc (suc (suc f))))))))))))))) k h l = absurd (omega arith)

-- of a number of the second item, that of the first one's like
likes : (n : ℕ) → 9 ≤ n % 16 → n % 16 < 15 → symbol_of (n - 6) ≡ of_family (n % 16 - 6) (n / 16)
unfolding symbol_of
likes n h l =
    let r : (n - 6) % 16 ≡ n % 16 - 6 = omega (arith, h, l) in
    let q : (n - 6) / 16 ≡ n / 16 = omega (arith, h, l) in
    ap (λ f. of_family f ((n - 6) / 16)) r ∙ ap (of_family (n % 16 - 6)) q

module _ {E : Type 0} (w : Walked E) (i j : ℕ) (hi : i < item_count (setup_of w)) (hj : j < item_count (setup_of w)) (root other : Root) (h1 h2 : Held E) (news more : List ℤ) (p : IsFit (record { walked = w; item = i; place = hi; root = root }) news h1) (q : IsFit (record { walked = w; item = j; place = hj; root = other }) more h2) where
  abbrev both : ℕ → ℤ
  both n = by_number (meaning (setup_of w) i j root other news more) n

  abbrev one_number : ℕ → ℤ
  one_number n = meaning (setup_of w) i j root other news more (symbol_of n)

  chosen-has : (n : ℕ) → n % 16 ≢ 15 → (b : Bool) → nat_lt ((n + 1) % 16) 10 ≡ b → w.domain.has (cond b (element_held w.domain (known w.domain w.kernel.sizes w.conditions) h1 n) (element_held w.domain (known w.domain w.kernel.sizes w.conditions) h2 (n - 6))) (one_number n) ≡ true
  unfolding symbol_of
  chosen-has n o true e =
      let l = ltb-true ((n + 1) % 16) 10 e in
      let r : (n % 16 + 1) % 16 < 10 = omega (arith, l) in
      subst (λ z. w.domain.has (element_held w.domain (known w.domain w.kernel.sizes w.conditions) h1 n) z ≡ true) (plain_number (meaning (setup_of w) i i root root news []) n o ∙ sym (own-first (setup_of w) i j root other news more (n % 16) (n / 16) r)) (p n)
  chosen-has n o false e =
      let l = ltb-false ((n + 1) % 16) 10 e in
      let a : 9 ≤ n % 16 = omega (arith, l) in
      let b : n % 16 < 15 = omega (arith, l, o) in
      subst (λ z. w.domain.has (element_held w.domain (known w.domain w.kernel.sizes w.conditions) h2 (n - 6)) z ≡ true) (plain_number (meaning (setup_of w) j j other other more []) (n - 6) (omega (arith, a, b)) ∙ ap (meaning (setup_of w) j j other other more []) (likes n a b) ∙ sym (own-second (setup_of w) i j root other news more (n % 16) (n / 16) a b)) (q (n - 6))

  abbrev of_factor : ℕ → E
  of_factor = element_of_factor w.domain (known w.domain w.kernel.sizes w.conditions) h1 h2

  factor-has : (n : ℕ) (b : Bool) → nat_eq (n % 16) 15 ≡ b → w.domain.has (cond b w.domain.top_of (element_alone w.domain (known w.domain w.kernel.sizes w.conditions) h1 h2 n)) (one_number n) ≡ true
  factor-has n true e = w.lawful.top (one_number n)
  factor-has n false e = (let o : n % 16 ≢ 15 = grind (arith, nat_tests) in chosen-has n o (nat_lt ((n + 1) % 16) 10) refl)

  from-has : (so_far : E) (z : ℤ) (ns : List ℕ) → w.domain.has so_far z ≡ true → w.domain.has (elements_from w.domain of_factor so_far ns) (z *ℤ value_of_factors one_number ns) ≡ true
  from-has so_far z [] h = subst (λ y. w.domain.has so_far y ≡ true) (omega (arith, ints)) h
  from-has so_far z (n ∷ ns) h =
      let next = w.domain.mul_of so_far (of_factor n) in
      subst (λ y. w.domain.has (elements_from w.domain of_factor next ns) y ≡ true) (mul_assoc z (one_number n) (value_of_factors one_number ns)) (from-has next (z *ℤ one_number n) ns (w.lawful.mul so_far (of_factor n) z (one_number n) h (factor-has n (nat_eq (n % 16) 15) refl)))

  factors-has : (ns : List ℕ) → w.domain.has (elements_of_factors w.domain of_factor ns) (value_of_factors one_number ns) ≡ true
  factors-has [] = w.lawful.number (pos 1)
  factors-has (n ∷ ns) = from-has (of_factor n) (one_number n) ns (factor-has n (nat_eq (n % 16) 15) refl)

  number-has : (n : ℕ) → w.domain.has (element_of_two w.domain (known w.domain w.kernel.sizes w.conditions) h1 h2 n) (both n) ≡ true
  number-has n = factors-has (factors n)

  pub two-has : (f : Fact) → w.domain.has (element_with w.domain (element_of_two w.domain (known w.domain w.kernel.sizes w.conditions) h1 h2) f) (value_of both f) ≡ true
  two-has f = element_with-has w.domain w.lawful (element_of_two w.domain (known w.domain w.kernel.sizes w.conditions) h1 h2) both number-has f
