-- What may be said of places and loops: forms of what an item has there.
use Rattle.std.specs.Prelude.{◌≡◌, ℕ, ◌%◌, nat_lt, nat_eq, Bool, true, false, ◌&&◌, List, [], ◌∷◌, Option, None, Some}
use Rattle.linear.specs.Linear.{Weighted}
use Rattle.linear.specs.Products.{factors, times, and_then}
use Rattle.facts.specs.Symbols.{First, Second, Symbol, Groups, ArgumentOf, Length, Local, Group, New, Variable, AtAnchor, Turns, symbol_of, Fact}
use Rattle.obligations.specs.Notes.{Congruence, Multiple, Notes}
use Rattle.obligations.specs.Listing.{is_some}

-- a symbol of the launch or of one item, and no new one; of an anchor where that is told of
abbrev pub may_tell : (of_anchor : Bool) → Symbol → Bool
may_tell b (Groups d) = true
may_tell b (ArgumentOf n) = true
may_tell b (Length n) = true
may_tell b (Local First d) = true
may_tell b (Group First d) = true
may_tell b (New First k) = false
may_tell b (Variable First x) = true
may_tell b (AtAnchor First x) = b
may_tell b (Turns First k) = true
may_tell b (Local Second d) = false
may_tell b (Group Second d) = false
may_tell b (New Second k) = false
may_tell b (Variable Second x) = false
may_tell b (AtAnchor Second x) = false
may_tell b (Turns Second k) = false

-- the number is a symbol's
abbrev pub is_symbol : ℕ → Bool
is_symbol n = nat_lt (n % 16) 15

abbrev pub factor_tells : (of_anchor : Bool) → ℕ → Bool
factor_tells b n = is_symbol n && may_tell b (symbol_of n)

abbrev pub factors_tell : (of_anchor : Bool) → List ℕ → Bool
factors_tell b [] = true
factors_tell b (n ∷ ns) = factor_tells b n && factors_tell b ns

-- the product of a symbol and others, from the left
abbrev pub times_all : ℕ → List ℕ → Option ℕ
times_all m [] = Some m
times_all m (n ∷ ns) = and_then (times m n) (λ k. times_all k ns)

abbrev pub is_number : ℕ → Option ℕ → Bool
is_number n None = false
is_number n (Some m) = nat_eq m n

-- the number is that of the product of these
abbrev pub is_product : ℕ → List ℕ → Bool
is_product n [] = false
is_product n (m ∷ ms) = is_number n (times_all m ms)

-- such a symbol, or a product of such ones
abbrev pub symbol_tells : (of_anchor : Bool) → ℕ → Bool
symbol_tells b n = factors_tell b (factors n) && is_product n (factors n)

abbrev pub terms_tell : (of_anchor : Bool) → List (Weighted ℕ) → Bool
terms_tell b [] = true
terms_tell b (t ∷ ts) = symbol_tells b t.symbol && terms_tell b ts

abbrev pub tells : (of_anchor : Bool) → Fact → Bool
tells b f = terms_tell b f.terms

abbrev pub all_tell : (of_anchor : Bool) → List Fact → Bool
all_tell b [] = true
all_tell b (f ∷ fs) = tells b f && all_tell b fs

abbrev pub congruences_tell : (of_anchor : Bool) → List Congruence → Bool
congruences_tell b [] = true
congruences_tell b (c ∷ cs) = tells b c.form && congruences_tell b cs

abbrev pub multiples_tell : (of_anchor : Bool) → List Multiple → Bool
multiples_tell b [] = true
multiples_tell b (m ∷ ms) = (tells b m.form && tells b m.of) && multiples_tell b ms

-- a place that is no loop's tells of no anchor but itself
pub record TellsOfItems (n : Notes) : Type 0 where
  pub facts : (anchor head : Option ℕ) → all_tell (is_some head) (n.facts anchor head) ≡ true
  pub congruences : (anchor head : Option ℕ) → congruences_tell (is_some head) (n.congruences anchor head) ≡ true
  pub multiples : (anchor head : Option ℕ) → multiples_tell (is_some head) (n.multiples anchor head) ≡ true
  pub rankings : (loop : ℕ) → tells false (n.ranking loop).form ≡ true
