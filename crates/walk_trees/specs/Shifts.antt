-- Shifts by a term.
use Rattle.std.specs.Prelude.{ℕ, ◌^◌, ℤ, pos, Bool, true, false, ◌&&◌, cond, Option, Some, None}
use Rattle.std.specs.Ordering.{int_eq}
use Rattle.semantics.specs.Word.{Kind, Int, Uint, Size, Direction, Leftward, Rightward, count_of}
use Rattle.linear.specs.Exact.{multiple}
use Rattle.facts.specs.Symbols.{Fact, minus}
use Rattle.facts.specs.Elements.{between}
use Rattle.walk_trees.specs.Trees.{Tree}
use Rattle.walk_trees.specs.Values.{Value, value}
use Rattle.walk_trees.specs.Walks.{Setting, State, Onward, greatest, any_of, invent, unknown, ranged, is_number, known_form}
use Rattle.walk_trees.specs.Bits.{is_natural, tell_where, bits_from}

-- how far a shift goes, where its count is a number
abbrev pub count_in : Fact → Option ℕ
count_in y = cond (is_number y) (Some (count_of y.constant)) None

-- the form is the number 1
abbrev pub is_one : Fact → Bool
is_one x = is_number x && int_eq x.constant (pos 1)

-- `1u` shifted to the left is one of 2^0 to 2^31
abbrev pub left_element : {E : Type 0} → Setting E → Kind → Fact → E
left_element s Int x = any_of s.domain Int
left_element s Uint x = cond (is_one x) (between s.domain (pos 1) (pos 2147483648)) (any_of s.domain Uint)
left_element s Size x = any_of s.domain Size

-- to the right a value that is not negative gets no greater, and not negative
abbrev pub right_element : {E : Type 0} → Setting E → State E → Kind → Fact → E
right_element s st k x = cond (is_natural s st k x) (between s.domain (pos 0) (greatest k)) (any_of s.domain k)

abbrev pub right_any : {E : Type 0} → Setting E → Kind → Fact → State E → (Fact → State E → Tree E) → Tree E
right_any s k x st go = invent s (right_element s st k x) st (λ r st1. tell_where s (is_natural s st k x) (minus x r) st1 (λ st2. go r st2))

-- by as many places as a term says
abbrev pub by_term : {E : Type 0} → Setting E → Direction → Kind → Fact → State E → (Fact → State E → Tree E) → Tree E
by_term s Leftward k x st go = invent s (left_element s k x) st go
by_term s Rightward k x st go = right_any s k x st go

-- to the left by a number: of a `uint` the product
abbrev pub left_by_number : {E : Type 0} → Setting E → Kind → ℕ → Fact → State E → Onward E → Tree E
left_by_number s Int n x st go = unknown s Int st go
left_by_number s Uint n x st go = ranged s Uint (multiple (pos (2 ^ n)) x) st go
left_by_number s Size n x st go = unknown s Size st go

-- to the right by a number: the quotient, rounded down
abbrev pub by_number : {E : Type 0} → Setting E → Direction → Kind → ℕ → Fact → State E → Onward E → Tree E
by_number s Leftward k n x st go = left_by_number s k n x st go
by_number s Rightward k n x st go = bits_from s k x n st (λ q st'. go (value k q) st')

abbrev pub shift_by : {E : Type 0} → Setting E → Option ℕ → Direction → Kind → Fact → State E → Onward E → Tree E
shift_by s None d k x st go = by_term s d k x st (λ r st'. go (value k r) st')
shift_by s (Some n) d k x st go = by_number s d k n x st go

-- a count of which one number is left is that number
abbrev pub shifted : {E : Type 0} → Setting E → Direction → Kind → (left count : Fact) → State E → Onward E → Tree E
shifted s d k x y st go = shift_by s (count_in (known_form s st y)) d k x st go
