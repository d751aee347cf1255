-- What a domain knows on one item's path: the elements of its new symbols, and what tests made of elements.
use Rattle.std.specs.Prelude.{ℕ, ◌%◌, ℤ, pos, negsuc, neg_ℤ, List, [], ◌∷◌, ◌++◌, Bool, true, false, cond, ◌&&◌, nat_eq, Option, Some, None}
use Rattle.std.specs.Ordering.{int_eq}
use Rattle.linear.specs.Linear.{Weighted}
use Rattle.linear.specs.Exact.{Terms, form_without, fits_i64}
use Rattle.linear.specs.Products.{factors}
use Rattle.domain.specs.declared.Domain.{Ghosts}
use Rattle.facts.specs.Symbols.{symbol_of, Fact}
use Rattle.facts.specs.Elements.{Known, element, is_from_zero}

-- a symbol, by its number, has this element from here on
pub record Narrowed (E : Type 0) : Type 0 where
  pub symbol : ℕ
  pub element : E

-- the elements of the new symbols, in their order, and all that was narrowed, the latest last
pub record Held (E : Type 0) : Type 0 where
  pub news : List E
  pub narrowed : List (Narrowed E)

abbrev pub no_held : {E : Type 0} → Held E
no_held = record { news = []; narrowed = [] }

abbrev pub with_new : {E : Type 0} → E → Held E → Held E
with_new e h = record { news = h.news ++ e ∷ []; narrowed = h.narrowed }

abbrev pub with_narrowed : {E : Type 0} → ℕ → E → Held E → Held E
with_narrowed s e h = record { news = h.news; narrowed = h.narrowed ++ record { symbol = s; element = e } ∷ [] }

-- the latest of a symbol, or `found`
abbrev pub latest : {E : Type 0} → (found : E) → List (Narrowed E) → ℕ → E
latest found [] s = found
latest found (n ∷ ns) s = latest (cond (nat_eq n.symbol s) n.element found) ns s

-- a symbol's element, by its number
abbrev pub element_held : {E : Type 0} → Ghosts E → Known E → Held E → ℕ → E
element_held g k h n = latest (element g (record { known = k; first = h.news; second = [] }) (symbol_of n)) h.narrowed n

abbrev pub elements_from : {E : Type 0} → Ghosts E → (ℕ → E) → E → List ℕ → E
elements_from g of_factor so_far [] = so_far
elements_from g of_factor so_far (n ∷ ns) = elements_from g of_factor (g.mul_of so_far (of_factor n)) ns

-- of a product, from the left
abbrev pub elements_of_factors : {E : Type 0} → Ghosts E → (ℕ → E) → List ℕ → E
elements_of_factors g of_factor [] = g.number_of (pos 1)
elements_of_factors g of_factor (n ∷ ns) = elements_from g of_factor (of_factor n) ns

-- no factor is a product
abbrev pub element_of_own : {E : Type 0} → Ghosts E → Known E → Held E → ℕ → E
element_of_own g k h n = cond (nat_eq (n % 16) 15) g.top_of (element_held g k h n)

-- also of a product: the latest, or that of its factors
abbrev pub element_number : {E : Type 0} → Ghosts E → Known E → Held E → ℕ → E
element_number g k h n = cond (nat_eq (n % 16) 15) (latest (elements_of_factors g (element_of_own g k h) (factors n)) h.narrowed n) (element_held g k h n)

-- the constant, then the terms in their order
abbrev pub terms_with : {E : Type 0} → Ghosts E → (ℕ → E) → (so_far : E) → List (Weighted ℕ) → E
terms_with g element so_far [] = so_far
terms_with g element so_far (t ∷ ts) = terms_with g element (g.add_of so_far (g.mul_of (g.number_of t.coefficient) (element t.symbol))) ts

-- a form's element, by those of symbols
abbrev pub element_with : {E : Type 0} → Ghosts E → (ℕ → E) → Fact → E
element_with g element f = terms_with g element (g.number_of f.constant) f.terms

abbrev pub element_at : {E : Type 0} → Ghosts E → Known E → Held E → Fact → E
element_at g k h f = element_with g (element_number g k h) f

-- a form that is at least 0 whose term of a symbol has the coefficient 1: the symbol is at least what denies the upper end of the rest.
-- With the coefficient -1 it is at most that end. Where the end is open, or leaves 64 bits, nothing is narrowed
abbrev pub from_below : {E : Type 0} → Ghosts E → Bool → ℕ → E → ℤ → Held E → Held E
from_below g true s e low h = with_narrowed s (g.at_least_of e low) h
from_below g false s e low h = h

abbrev pub from_above : {E : Type 0} → Ghosts E → Bool → ℕ → E → ℤ → Held E → Held E
from_above g true s e high h = with_narrowed s (g.at_most_of e high) h
from_above g false s e high h = h

abbrev pub narrowed_by : {E : Type 0} → Ghosts E → (coefficient : ℤ) → ℕ → E → Option ℤ → Held E → Held E
narrowed_by g c s e None h = h
narrowed_by g c s e (Some high) h = from_above g (int_eq c (negsuc 0)) s e high (from_below g (int_eq c (pos 1) && fits_i64 (neg_ℤ high)) s e (neg_ℤ high) h)

abbrev pub narrow_one : {E : Type 0} → Ghosts E → Known E → Fact → Weighted ℕ → Held E → Held E
narrow_one g k f t h = narrowed_by g t.coefficient t.symbol (element_number g k h t.symbol) (g.bounds_of (element_at g k h (form_without t.symbol f))).high h

abbrev pub narrow_terms : {E : Type 0} → Ghosts E → Known E → Fact → Terms → Held E → Held E
narrow_terms g k f [] h = h
narrow_terms g k f (t ∷ ts) h = narrow_terms g k f ts (narrow_one g k f t h)

-- by a fact of a test: symbol by symbol in the form's order, with the elements as they then stand
abbrev pub narrow : {E : Type 0} → Ghosts E → Known E → Fact → Held E → Held E
narrow g k f h = narrow_terms g k f f.terms h

-- the form is at least 0 by the domain alone
abbrev pub is_settled_at : {E : Type 0} → Ghosts E → Known E → Held E → Fact → Bool
is_settled_at g k h f = is_from_zero (g.bounds_of (element_at g k h f)).low
