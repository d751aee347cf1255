-- What elements say of the values of forms, by the domain's laws.
use Rattle.std.proofs.Common.{◌≡◌, ◌≢◌, ◌%◌, ℕ, Bool, true, false, ◌||◌, not, List, [], ◌∷◌, Option, Some, None, arith, ap, ◌∙◌, subst, inl, inr}
use Rattle.std.specs.Prelude.{ℤ, pos, ◌+ℤ◌, ◌*ℤ◌, ◌≤ℤ◌, ◌⊎◌}
use Rattle.std.proofs.lemmas.Int.{ints}
use Rattle.std.proofs.lemmas.Bool.{and_parts, or_cases}
use Rattle.linear.specs.Linear.{Weighted, terms_value, value_of}
use Rattle.linear.specs.Products.{factors, value_of_factors, with_products, IsMultiplicative}
use Rattle.linear.proofs.Multiplying.{with_products-multiplicative, with_products-alone}
use Rattle.semantics.proofs.Integers.{mul_assoc}
use Rattle.domain.specs.declared.Domain.{Ghosts}
use Rattle.domain.specs.Members.{is_above, is_below, is_within, leaves}
use Rattle.facts.specs.Symbols.{Symbol, number, symbol_of, Fact}
use Rattle.facts.specs.Elements.{Elements, element, element_from, element_of_factors, element_at, with_terms, element_of, between, is_from_zero, is_above_zero, is_below_zero, is_settled, lacks_zero}
use Rattle.facts.proofs.Naming.{symbol_of-number, no_product}
use Rattle.facts.proofs.Integers.{le_test, lt_test}

-- what a walk asks of a domain
pub record Lawful {E : Type 0} (g : Ghosts E) : Type 0 where
  pub top : (z : ℤ) → g.has g.top_of z ≡ true
  pub number : (n : ℤ) → g.has (g.number_of n) n ≡ true
  pub join : (a b : E) (z : ℤ) → (g.has a z ≡ true) ⊎ (g.has b z ≡ true) → g.has (g.join_of a b) z ≡ true
  pub add : (a b : E) (x y : ℤ) → g.has a x ≡ true → g.has b y ≡ true → g.has (g.add_of a b) (x +ℤ y) ≡ true
  pub mul : (a b : E) (x y : ℤ) → g.has a x ≡ true → g.has b y ≡ true → g.has (g.mul_of a b) (x *ℤ y) ≡ true
  pub at_least : (a : E) (n x : ℤ) → g.has a x ≡ true → n ≤ℤ x → g.has (g.at_least_of a n) x ≡ true
  pub at_most : (a : E) (n x : ℤ) → g.has a x ≡ true → x ≤ℤ n → g.has (g.at_most_of a n) x ≡ true
  pub bounds : (a : E) (x : ℤ) → g.has a x ≡ true → is_within (g.bounds_of a) x ≡ true
  pub residue : (a : E) (x : ℤ) → g.has a x ≡ true → leaves (g.residue_of a) x ≡ true

-- each symbol's number is a member of its element
abbrev pub Members : {E : Type 0} → Ghosts E → Elements E → (Symbol → ℤ) → Type 0
Members g e m = (s : Symbol) → g.has (element g e s) (m s) ≡ true

-- a form's valuation, by the numbers of symbols
abbrev pub by_number : (Symbol → ℤ) → ℕ → ℤ
by_number m = with_products (λ n. m (symbol_of n))

pub by_number-multiplicative : (m : Symbol → ℤ) → IsMultiplicative (by_number m)
by_number-multiplicative m = with_products-multiplicative (λ n. m (symbol_of n))

pub plain_number : (m : Symbol → ℤ) (n : ℕ) → n % 16 ≢ 15 → by_number m n ≡ m (symbol_of n)
plain_number m n h = with_products-alone (λ i. m (symbol_of i)) n h

-- a symbol's number is none of a product
pub numbered : (m : Symbol → ℤ) (s : Symbol) → by_number m (number s) ≡ m s
numbered m s = with_products-alone (λ n. m (symbol_of n)) (number s) (no_product s) ∙ ap m (symbol_of-number s)

above_zero : (o : Option ℤ) (z : ℤ) → is_from_zero o ≡ true → is_above o z ≡ true → pos 0 ≤ℤ z
above_zero None z h a = cc
above_zero (Some low) z h a = omega (arith, ints, le_test (pos 0) low h, le_test low z a)

not_above : (o : Option ℤ) → is_above_zero o ≡ true → is_above o (pos 0) ≡ true → ⊥
not_above None h a = cc
not_above (Some low) h a = omega (arith, ints, lt_test (pos 0) low h, le_test low (pos 0) a)

not_below : (o : Option ℤ) → is_below_zero o ≡ true → is_below o (pos 0) ≡ true → ⊥
not_below None h a = cc
not_below (Some high) h a = omega (arith, ints, lt_test high (pos 0) h, le_test (pos 0) high a)

not_both : (b : Bool) → not b ≡ true → b ≡ true → ⊥
not_both true h e = cc
not_both false h e = cc

module _ {E : Type 0} (g : Ghosts E) (laws : Lawful g) where
  pub between-has : (low high z : ℤ) → low ≤ℤ z → z ≤ℤ high → g.has (between g low high) z ≡ true
  between-has low high z h j = laws.at_most (g.at_least_of g.top_of low) high z (laws.at_least g.top_of low z (laws.top z) h) j

  from-has : (e : Elements E) (m : Symbol → ℤ) → Members g e m → (so_far : E) (z : ℤ) (ns : List ℕ) → g.has so_far z ≡ true → g.has (element_from g e so_far ns) (z *ℤ value_of_factors (λ n. m (symbol_of n)) ns) ≡ true
  from-has e m k so_far z [] h = subst (λ y. g.has so_far y ≡ true) (omega (arith, ints)) h
  from-has e m k so_far z (n ∷ ns) h =
      let next = g.mul_of so_far (element g e (symbol_of n)) in
      subst (λ y. g.has (element_from g e next ns) y ≡ true) (mul_assoc z (m (symbol_of n)) (value_of_factors (λ i. m (symbol_of i)) ns)) (from-has e m k next (z *ℤ m (symbol_of n)) ns (laws.mul so_far (element g e (symbol_of n)) z (m (symbol_of n)) h (k (symbol_of n))))

  factors-has : (e : Elements E) (m : Symbol → ℤ) → Members g e m → (ns : List ℕ) → g.has (element_of_factors g e ns) (value_of_factors (λ n. m (symbol_of n)) ns) ≡ true
  factors-has e m k [] = laws.number (pos 1)
  factors-has e m k (n ∷ ns) = from-has e m k (element g e (symbol_of n)) (m (symbol_of n)) ns (k (symbol_of n))

  pub element_at-has : (e : Elements E) (m : Symbol → ℤ) → Members g e m → (n : ℕ) → g.has (element_at g e n) (by_number m n) ≡ true
  element_at-has e m k n = factors-has e m k (factors n)

  terms-has : (e : Elements E) (m : Symbol → ℤ) → Members g e m → (so_far : E) (z : ℤ) (ts : List (Weighted ℕ)) → g.has so_far z ≡ true → g.has (with_terms g e so_far ts) (z +ℤ terms_value (by_number m) ts) ≡ true
  terms-has e m k so_far z [] h = subst (λ y. g.has so_far y ≡ true) (omega (arith, ints)) h
  terms-has e m k so_far z (t ∷ ts) h =
      let x = t.coefficient *ℤ by_number m t.symbol in
      let next = g.add_of so_far (g.mul_of (g.number_of t.coefficient) (element_at g e t.symbol)) in
      let one = laws.add so_far (g.mul_of (g.number_of t.coefficient) (element_at g e t.symbol)) z x h (laws.mul (g.number_of t.coefficient) (element_at g e t.symbol) t.coefficient (by_number m t.symbol) (laws.number t.coefficient) (element_at-has e m k t.symbol)) in
      subst (λ y. g.has (with_terms g e next ts) y ≡ true) (omega (arith, ints)) (terms-has e m k next (z +ℤ x) ts one)

  pub element_of-has : (e : Elements E) (m : Symbol → ℤ) → Members g e m → (f : Fact) → g.has (element_of g e f) (value_of (by_number m) f) ≡ true
  element_of-has e m k f = subst (λ y. g.has (element_of g e f) y ≡ true) (omega (arith, ints)) (terms-has e m k (g.number_of f.constant) f.constant f.terms (laws.number f.constant))

  -- a settled form is at least 0
  pub settled_holds : (e : Elements E) (m : Symbol → ℤ) → Members g e m → (f : Fact) → is_settled g e f ≡ true → pos 0 ≤ℤ value_of (by_number m) f
  settled_holds e m k f h =
      let b = g.bounds_of (element_of g e f) in
      let z = value_of (by_number m) f in
      above_zero b.low z h (and_parts (is_above b.low z) (is_below b.high z) (laws.bounds (element_of g e f) z (element_of-has e m k f))).0

  -- 0 is no member where the element lacks it
  pub zero_lacks : (x : E) → lacks_zero g x ≡ true → g.has x (pos 0) ≡ true → ⊥
  zero_lacks x h i =
      let b = g.bounds_of x in
      let w = and_parts (is_above b.low (pos 0)) (is_below b.high (pos 0)) (laws.bounds x (pos 0) i) in
      elim (or_cases (is_above_zero b.low || is_below_zero b.high) (not (leaves (g.residue_of x) (pos 0))) h) [
        | inl p ↦ elim (or_cases (is_above_zero b.low) (is_below_zero b.high) p) [ inl q ↦ not_above b.low q w.0 | inr q ↦ not_below b.high q w.1 ]
        | inr p ↦ not_both (leaves (g.residue_of x) (pos 0)) p (laws.residue x (pos 0) i)
      ]
