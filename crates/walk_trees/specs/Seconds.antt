-- The second item's copies of the first one's forms. Symbols of the launch are shared.
use Rattle.std.specs.Prelude.{ℕ, ◌+◌, ◌-◌, ◌%◌, Bool, true, ◌&&◌, cond, nat_lt, nat_eq, List, [], ◌∷◌, map}
use Rattle.linear.specs.Linear.{Weighted}
use Rattle.linear.specs.Exact.{merge}
use Rattle.linear.specs.Products.{factors, are_small, product_number, relabelled}
use Rattle.domain.specs.declared.Domain.{Ghosts}
use Rattle.facts.specs.Symbols.{Fact}
use Rattle.facts.specs.Elements.{Known}
use Rattle.walk_trees.specs.Held.{Held, element_held, elements_of_factors}
use Rattle.walk_trees.specs.Trees.{Access}

-- of sixteen families the first three are the launch's, the next six the first item's, and the six that follow the second item's
abbrev pub shifted : ℕ → ℕ
shifted n = cond (nat_lt (n % 16) 3) n (cond (nat_lt (n % 16) 9) (n + 6) n)

-- of a product, by its factors
abbrev pub second : ℕ → ℕ
second n = relabelled shifted n

-- put in order again: the copy of a product may come before that of a symbol that the product comes behind
abbrev pub second_terms : List (Weighted ℕ) → List (Weighted ℕ)
second_terms [] = []
second_terms (t ∷ ts) = merge (record { coefficient = t.coefficient; symbol = second t.symbol } ∷ []) (second_terms ts)

abbrev pub second_form : Fact → Fact
second_form f = record { terms = second_terms f.terms; constant = f.constant }

abbrev pub second_forms : List Fact → List Fact
second_forms fs = map second_form fs

-- a symbol of the launch has what the first item's path holds of it; there are no symbols of the sixteenth family
abbrev pub element_alone : {E : Type 0} → Ghosts E → Known E → (first second : Held E) → ℕ → E
element_alone g k h1 h2 n = cond (nat_lt ((n + 1) % 16) 10) (element_held g k h1 n) (element_held g k h2 (n - 6))

-- no factor is a product
abbrev pub element_of_factor : {E : Type 0} → Ghosts E → Known E → (first second : Held E) → ℕ → E
element_of_factor g k h1 h2 n = cond (nat_eq (n % 16) 15) g.top_of (element_alone g k h1 h2 n)

abbrev pub element_of_two : {E : Type 0} → Ghosts E → Known E → (first second : Held E) → ℕ → E
element_of_two g k h1 h2 n = elements_of_factors g (element_of_factor g k h1 h2) (factors n)

-- a symbol of the launch or of the first item; forms and accesses that have no others
abbrev pub are_own_factors : List ℕ → Bool
are_own_factors [] = true
are_own_factors (n ∷ ns) = nat_lt (n % 16) 9 && are_own_factors ns

-- a product's number is the one that its factors have
abbrev pub is_whole : ℕ → Bool
is_whole n = cond (nat_eq (n % 16) 15) (are_small (factors n) && nat_eq (product_number (factors n)) n) true

abbrev pub is_own_symbol : ℕ → Bool
is_own_symbol n = are_own_factors (factors n) && is_whole n

abbrev pub are_own_terms : List (Weighted ℕ) → Bool
are_own_terms [] = true
are_own_terms (t ∷ ts) = is_own_symbol t.symbol && are_own_terms ts

abbrev pub is_own : Fact → Bool
is_own f = are_own_terms f.terms

abbrev pub are_own : List Fact → Bool
are_own [] = true
are_own (f ∷ fs) = is_own f && are_own fs

abbrev pub is_own_access : {E : Type 0} → Access E → Bool
is_own_access a = is_own a.index && are_own a.facts
