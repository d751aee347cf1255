-- Quotients by forms that are no numbers, and what they leave: by the product of quotient and divisor, where it is.
use Rattle.std.specs.Prelude.{pos, Bool, ◌&&◌, ◌||◌, not, Option, Some, None}
use Rattle.semantics.specs.Word.{Kind}
use Rattle.facts.specs.Symbols.{Fact, constant, minus}
use Rattle.facts.specs.Elements.{is_from_zero, is_above_zero}
use Rattle.walk_trees.specs.Trees.{Tree, Know}
use Rattle.walk_trees.specs.Shares.{Shared}
use Rattle.walk_trees.specs.Walks.{Setting, State, with_quotient, element_of, bounds_of, invent, greatest, is_number}
use Rattle.walk_trees.specs.Quotients.{named_by}
use Rattle.walk_trees.specs.Covered.{is_uint}

-- in the wide walk, by a form that is no number, of a dividend of at least 0 by a divisor of at least 1: a `uint` that is not 0 is
abbrev pub is_shared : {E : Type 0} → Setting E → State E → Kind → (dividend divisor : Fact) → Bool
is_shared s st k x y = s.is_wide && (not (is_number y) && (is_uint k || (is_from_zero (bounds_of s st x).low && is_above_zero (bounds_of s st y).low)))

-- the quotient is rounded down, and no more than the greatest number of its kind (C99 6.5.5)
abbrev pub quotient_element : {E : Type 0} → Setting E → State E → Kind → (dividend divisor : Fact) → E
quotient_element s st k x y = s.domain.at_most_of (s.domain.at_least_of (s.domain.div_of (element_of s st x) (element_of s st y)) (pos 0)) (greatest k)

abbrev pub left_element : {E : Type 0} → Setting E → State E → (dividend divisor : Fact) → E
left_element s st x y = s.domain.at_least_of (s.domain.rem_of (element_of s st x) (element_of s st y)) (pos 0)

-- what the product of quotient and divisor leaves is from 0 up to below the divisor
abbrev pub below_divisor : (divisor left : Fact) → Fact
below_divisor y left = minus (minus y (constant (pos 1))) left

abbrev pub shared : (dividend divisor quotient left : Fact) → Shared
shared x y q r = record { dividend = x; divisor = y; quotient = q; left = r }

abbrev pub keep : {E : Type 0} → Shared → State E → (Option Shared → State E → Tree E) → Tree E
keep q st go = go (Some q) (with_quotient q st)

-- the quotient and what it leaves, as new symbols
abbrev pub make : {E : Type 0} → Setting E → Kind → (dividend divisor product : Fact) → State E → (Option Shared → State E → Tree E) → Tree E
make s k x y h st go =
    invent s (quotient_element s st k x y) st (λ q st1. Know (minus x h) (Know (below_divisor y (minus x h)) (
    named_by s (left_element s st x y) (minus x h) st1 (λ r st2. keep (shared x y q r) st2 go))))

abbrev pub made : {E : Type 0} → Setting E → (product : Option Fact) → Kind → (dividend divisor : Fact) → State E → (Option Shared → State E → Tree E) → Tree E
made s None k x y st go = go None st
made s (Some h) k x y st go = make s k x y h st go

-- an earlier one of the same forms, else a new one
abbrev pub found_or_made : {E : Type 0} → Setting E → (found : Option Shared) → (product : Option Fact) → Kind → (dividend divisor : Fact) → State E → (Option Shared → State E → Tree E) → Tree E
found_or_made s (Some q) h k x y st go = go (Some q) st
found_or_made s None h k x y st go = made s h k x y st go

-- what there is of it; else a symbol of which the domain alone tells
abbrev pub quotient_or_new : {E : Type 0} → Setting E → Option Shared → (dividend divisor : Fact) → State E → (Fact → State E → Tree E) → Tree E
quotient_or_new s (Some q) x y st go = go q.quotient st
quotient_or_new s None x y st go = invent s (s.domain.div_of (element_of s st x) (element_of s st y)) st go

abbrev pub left_or_new : {E : Type 0} → Setting E → Option Shared → (dividend divisor : Fact) → State E → (Fact → State E → Tree E) → Tree E
left_or_new s (Some q) x y st go = go q.left st
left_or_new s None x y st go = invent s (s.domain.rem_of (element_of s st x) (element_of s st y)) st go
