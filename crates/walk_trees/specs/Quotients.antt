-- Quotients by numbers, and what they leave.
use Rattle.std.specs.Prelude.{ℕ, zero, suc, ◌^◌, ℤ, pos, ◌-ℤ◌, Bool, ◌||◌, cond}
use Rattle.std.specs.Ordering.{int_eq}
use Rattle.semantics.specs.Word.{Kind}
use Rattle.linear.specs.Exact.{multiple}
use Rattle.facts.specs.Symbols.{Fact, constant, minus}
use Rattle.facts.specs.Elements.{between}
use Rattle.walk_trees.specs.Trees.{Tree, Know}
use Rattle.walk_trees.specs.Walks.{Setting, State, invent, any_of}

-- a dividend of at least 0 by a number above 0: the quotient, and what it leaves, which is from 0 up to below the number
abbrev pub left_over : Fact → ℤ → (quotient : Fact) → Fact
left_over x c q = minus x (multiple c q)

abbrev pub quotient : {E : Type 0} → Setting E → Kind → Fact → (divisor : ℤ) → State E → ((quotient left : Fact) → State E → Tree E) → Tree E
quotient s k x c st go =
    invent s (any_of s.domain k) st (λ q st'. Know (left_over x c q) (Know (minus (constant (c -ℤ pos 1)) (left_over x c q)) (go q (left_over x c q) st')))

-- what a quotient leaves, as a new symbol
abbrev pub named_by : {E : Type 0} → Setting E → E → (left : Fact) → State E → (Fact → State E → Tree E) → Tree E
named_by s e left st go = invent s e st (λ r st'. Know (minus left r) (Know (minus r left) (go r st')))

-- from 0 up to below the divisor
abbrev pub named : {E : Type 0} → Setting E → (divisor : ℤ) → (left : Fact) → State E → (Fact → State E → Tree E) → Tree E
named s c left st go = named_by s (between s.domain (pos 0) (c -ℤ pos 1)) left st go

-- in the wide walk it is named
abbrev pub left_by : {E : Type 0} → Setting E → Kind → Fact → (divisor : ℤ) → State E → (Fact → State E → Tree E) → Tree E
left_by s k x c st go = quotient s k x c st (λ q r st'. cond s.is_wide (named s c r st' go) (go r st'))

-- one of 2^0 to 2^n
unfoldable pub is_power : (n : ℕ) → ℤ → Bool
is_power zero c = int_eq c (pos 1)
is_power (suc n) c = int_eq c (pos (2 ^ suc n)) || is_power n c
