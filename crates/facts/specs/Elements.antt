-- What an abstract domain knows of symbols and forms.
use Rattle.std.specs.Prelude.{ℕ, ℤ, pos, List, [], ◌∷◌, Bool, false, ◌||◌, not, slice_index_or, int_le, int_lt, Option, Some, None}
use Rattle.linear.specs.Linear.{Weighted}
use Rattle.linear.specs.Products.{factors}
use Rattle.domain.specs.declared.Domain.{Ghosts}
use Rattle.domain.specs.Members.{leaves}
use Rattle.facts.specs.Symbols.{Side, First, Second, Symbol, Groups, ArgumentOf, Length, Local, Group, New, Variable, AtAnchor}
use Rattle.facts.specs.Symbols.{Turns, symbol_of, Fact}

-- the elements of a launch's symbols, and of the ids of its items
pub record Known (E : Type 0) : Type 0 where
  pub counts : List E
  pub arguments : List E
  pub lengths : List E
  pub locals : List E
  pub groups : List E

-- with those of the new symbols of each item
pub record Elements (E : Type 0) : Type 0 where
  pub known : Known E
  pub first : List E
  pub second : List E

-- of one item alone
abbrev pub elements_of : {E : Type 0} → Known E → Side → List E → Elements E
elements_of k First es = record { known = k; first = es; second = [] }
elements_of k Second es = record { known = k; first = []; second = es }

-- from the low end to the high one
abbrev pub between : {E : Type 0} → Ghosts E → (low high : ℤ) → E
between g low high = g.at_most_of (g.at_least_of g.top_of low) high

abbrev pub nth : {E : Type 0} → Ghosts E → List E → ℕ → E
nth g es n = slice_index_or es n g.top_of

-- of variables and turns nothing is known beforehand
abbrev pub element : {E : Type 0} → Ghosts E → Elements E → Symbol → E
element g e (Groups d) = nth g e.known.counts d
element g e (ArgumentOf n) = nth g e.known.arguments n
element g e (Length b) = nth g e.known.lengths b
element g e (Local w d) = nth g e.known.locals d
element g e (Group w d) = nth g e.known.groups d
element g e (New First k) = nth g e.first k
element g e (New Second k) = nth g e.second k
element g e (Variable w x) = g.top_of
element g e (AtAnchor w x) = g.top_of
element g e (Turns w k) = g.top_of

-- of a product, from the left
abbrev pub element_from : {E : Type 0} → Ghosts E → Elements E → E → List ℕ → E
element_from g e so_far [] = so_far
element_from g e so_far (n ∷ ns) = element_from g e (g.mul_of so_far (element g e (symbol_of n))) ns

abbrev pub element_of_factors : {E : Type 0} → Ghosts E → Elements E → List ℕ → E
element_of_factors g e [] = g.number_of (pos 1)
element_of_factors g e (n ∷ ns) = element_from g e (element g e (symbol_of n)) ns

-- by a symbol's number
abbrev pub element_at : {E : Type 0} → Ghosts E → Elements E → ℕ → E
element_at g e n = element_of_factors g e (factors n)

-- the constant, then the terms in their order
abbrev pub with_terms : {E : Type 0} → Ghosts E → Elements E → E → List (Weighted ℕ) → E
with_terms g e so_far [] = so_far
with_terms g e so_far (t ∷ ts) = with_terms g e (g.add_of so_far (g.mul_of (g.number_of t.coefficient) (element_at g e t.symbol))) ts

abbrev pub element_of : {E : Type 0} → Ghosts E → Elements E → Fact → E
element_of g e f = with_terms g e (g.number_of f.constant) f.terms

-- the end is at least 0
abbrev pub is_from_zero : Option ℤ → Bool
is_from_zero None = false
is_from_zero (Some low) = int_le (pos 0) low

abbrev pub is_above_zero : Option ℤ → Bool
is_above_zero None = false
is_above_zero (Some low) = int_lt (pos 0) low

abbrev pub is_below_zero : Option ℤ → Bool
is_below_zero None = false
is_below_zero (Some high) = int_lt high (pos 0)

-- the form is at least 0 by the domain alone
abbrev pub is_settled : {E : Type 0} → Ghosts E → Elements E → Fact → Bool
is_settled g e f = is_from_zero (g.bounds_of (element_of g e f)).low

-- bounds or residue leave out 0
abbrev pub lacks_zero : {E : Type 0} → Ghosts E → E → Bool
lacks_zero g x =
    is_above_zero (g.bounds_of x).low || is_below_zero (g.bounds_of x).high
    || not (leaves (g.residue_of x) (pos 0))
