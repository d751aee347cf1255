-- What is told of an item where a place's tree begins has one value, whatever new symbols there are.
use Rattle.std.proofs.Common.{◌≡◌, ℕ, zero, suc, ◌+◌, ◌*◌, ◌/◌, ◌%◌, ◌<◌, Bool, true, nat_eq, Option, None, Some, List, [], ◌∷◌, arith, refl, sym, ap, ◌∙◌, ltb-true}
use Rattle.std.specs.Prelude.{ℤ, ◌+ℤ◌, ◌*ℤ◌}
use Rattle.std.proofs.lemmas.Bool.{and_parts}
use Rattle.std.proofs.lemmas.Int.{ints}
use Rattle.std.proofs.lemmas.Bool.Decides.{nat_tests}
use Rattle.linear.specs.Linear.{Weighted, terms_value, value_of}
use Rattle.linear.specs.Products.{factors, times, IsMultiplicative, value_of_factors}
use Rattle.linear.proofs.Multiplying.{same, gives}
use Rattle.semantics.proofs.Integers.{mul_assoc}
use Rattle.facts.specs.Symbols as symbols
use Rattle.facts.specs.Symbols.{First, Second, Symbol, ArgumentOf, Length, Local, Group, New, Variable, AtAnchor, Turns, number, of_family, symbol_of, Fact}
use Rattle.facts.proofs.Members.{by_number}
use Rattle.facts.proofs.Worlds.{View, setup, meaning, Agrees}
use Rattle.obligations.specs.Telling.{may_tell, is_symbol, factor_tells, factors_tell, times_all, is_number, is_product, symbol_tells, terms_tell, tells}
use Rattle.obligations.proofs.Replaced.{value_at}

-- a number of one of the fifteen families is that of its symbol
of-family : (f i : ℕ) → f < 15 → number (of_family f i) ≡ f + 16 * i
of-family zero i h = refl
of-family (suc zero) i h = refl
of-family (suc (suc zero)) i h = refl
of-family (suc (suc (suc zero))) i h = refl
of-family (suc (suc (suc (suc zero)))) i h = refl
of-family (suc (suc (suc (suc (suc zero))))) i h = refl
of-family (suc (suc (suc (suc (suc (suc zero)))))) i h = refl
of-family (suc (suc (suc (suc (suc (suc (suc zero))))))) i h = refl
of-family (suc (suc (suc (suc (suc (suc (suc (suc zero)))))))) i h = refl
of-family (suc (suc (suc (suc (suc (suc (suc (suc (suc zero))))))))) i h = refl
of-family (suc (suc (suc (suc (suc (suc (suc (suc (suc (suc zero)))))))))) i h = refl
of-family (suc (suc (suc (suc (suc (suc (suc (suc (suc (suc (suc zero))))))))))) i h = refl
of-family (suc (suc (suc (suc (suc (suc (suc (suc (suc (suc (suc (suc zero)))))))))))) i h = refl
of-family (suc (suc (suc (suc (suc (suc (suc (suc (suc (suc (suc (suc (suc zero))))))))))))) i h = refl
of-family (suc (suc (suc (suc (suc (suc (suc (suc (suc (suc (suc (suc (suc (suc zero)))))))))))))) i h = refl
of-family (suc (suc (suc (suc (suc (suc (suc (suc (suc (suc (suc (suc (suc (suc (suc f))))))))))))))) i h = absurd (omega (arith, h))

pub number-symbol_of : (n : ℕ) → is_symbol n ≡ true → number (symbol_of n) ≡ n
unfolding symbol_of
number-symbol_of n h = let l = ltb-true (n % 16) 15 h in of-family (n % 16) (n / 16) l ∙ omega arith

-- the product of symbols, where values keep products
value-all : (v : ℕ → ℤ) → IsMultiplicative v → (m : ℕ) (ns : List ℕ) (k : ℕ) → times_all m ns ≡ Some k → v k ≡ v m *ℤ value_of_factors v ns
value-all v is m [] k e = ap v (sym (same m k e)) ∙ omega (arith, ints)
value-all v is m (n ∷ ns) k e =
    let j = gives (times m n) _ k e in
    value-all v is j.0 ns k j.2 ∙ ap (λ z. z *ℤ value_of_factors v ns) (is m n j.0 j.1) ∙ mul_assoc (v m) (v n) (value_of_factors v ns)

number-there : (n : ℕ) (o : Option ℕ) → is_number n o ≡ true → o ≡ Some n
number-there n None h = cc
number-there n (Some m) h = ap Some (same-number m n h)
  where
    same-number : (m n : ℕ) → nat_eq m n ≡ true → m ≡ n
    same-number m n h = grind (arith, nat_tests)

value-whole : (v : ℕ → ℤ) → IsMultiplicative v → (n : ℕ) (ns : List ℕ) → is_product n ns ≡ true → v n ≡ value_of_factors v ns
value-whole v is n [] h = cc
value-whole v is n (m ∷ ms) h = value-all v is m ms n (number-there n (times_all m ms) h)

module _ {E : Type 0} (c : View E) (news : List ℤ) (v : ℕ → ℤ) (a : Agrees c news v) where
  abbrev m : Symbol → ℤ
  m = meaning (setup c) c.item c.item c.root c.root [] []

  symbol-told : (b : Bool) (s : Symbol) → may_tell b s ≡ true → v (number s) ≡ m s
  symbol-told b (symbols.Groups d) h = a.groups d
  symbol-told b (ArgumentOf n) h = a.given n
  symbol-told b (Length n) h = a.lengths n
  symbol-told b (Local First d) h = a.local d
  symbol-told b (Group First d) h = a.group d
  symbol-told b (New First k) h = cc
  symbol-told b (Variable First x) h = a.variable x
  symbol-told b (AtAnchor First x) h = a.at_anchor x
  symbol-told b (Turns First n) h = a.turns n
  symbol-told b (Local Second d) h = cc
  symbol-told b (Group Second d) h = cc
  symbol-told b (New Second k) h = cc
  symbol-told b (Variable Second x) h = cc
  symbol-told b (AtAnchor Second x) h = cc
  symbol-told b (Turns Second n) h = cc

  factors-told : (b : Bool) (ns : List ℕ) → factors_tell b ns ≡ true → value_of_factors v ns ≡ value_of_factors (λ n. m (symbol_of n)) ns
  factors-told b [] h = refl
  factors-told b (n ∷ ns) h =
      let p = and_parts (factor_tells b n) (factors_tell b ns) h in
      let q = and_parts (is_symbol n) (may_tell b (symbol_of n)) p.0 in
      let e : v n ≡ m (symbol_of n) = sym (ap v (number-symbol_of n q.0)) ∙ symbol-told b (symbol_of n) q.1 in
      (λ i. e i *ℤ factors-told b ns p.1 i)

  number-told : (b : Bool) (n : ℕ) → symbol_tells b n ≡ true → v n ≡ by_number m n
  number-told b n h =
      let p = and_parts (factors_tell b (factors n)) (is_product n (factors n)) h in
      value-whole v a.products n (factors n) p.1 ∙ factors-told b (factors n) p.0

  terms-told : (b : Bool) (ts : List (Weighted ℕ)) → terms_tell b ts ≡ true → terms_value v ts ≡ terms_value (by_number m) ts
  terms-told b [] h = refl
  terms-told b (t ∷ ts) h =
      let p = and_parts (symbol_tells b t.symbol) (terms_tell b ts) h in
      ap (λ z. t.coefficient *ℤ z +ℤ terms_value v ts) (number-told b t.symbol p.0) ∙ ap (λ z. t.coefficient *ℤ by_number m t.symbol +ℤ z) (terms-told b ts p.1)

  pub told-value : (b : Bool) (f : Fact) → tells b f ≡ true → value_of v f ≡ value_at c c.root f
  told-value b f h = ap (λ z. z +ℤ f.constant) (terms-told b f.terms h)
