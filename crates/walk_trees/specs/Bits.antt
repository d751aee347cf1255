-- The bits of two operands, as the wide walk has them.
use Rattle.std.specs.Prelude.{ℕ, zero, suc, ◌^◌, ℤ, pos, ◌+ℤ◌, ◌-ℤ◌, Bool, true, false, ◌&&◌, ◌||◌, cond, int_le, int_lt, int_div, Option, Some, None}
use Rattle.std.specs.Ordering.{int_eq}
use Rattle.semantics.specs.Word.{Kind, Int, Uint, Size}
use Rattle.linear.specs.Exact.{sum, multiple, fits}
use Rattle.facts.specs.Symbols.{Fact, constant, minus}
use Rattle.facts.specs.Elements.{between, is_from_zero}
use Rattle.walk_trees.specs.Held.{narrow}
use Rattle.walk_trees.specs.Trees.{Tree, Know}
use Rattle.walk_trees.specs.Covered.{is_uint}
use Rattle.walk_trees.specs.Walks.{Setting, State, holding, element_of, bounds_of, invent, any_of, greatest, is_number}
use Rattle.walk_trees.specs.Quotients.{quotient, left_by, is_power}

-- a value that is known not to be negative
abbrev pub is_natural : {E : Type 0} → Setting E → State E → Kind → Fact → Bool
is_natural s st k x = is_uint k || is_from_zero (bounds_of s st x).low

-- a fact, which narrows, where it is so
abbrev pub tell_where : {E : Type 0} → Setting E → Bool → Fact → State E → (State E → Tree E) → Tree E
tell_where s true f st go = Know f (go (holding (narrow s.domain s.known f st.held) st))
tell_where s false f st go = go st

-- the bits from a place on, as a number
abbrev pub bits_from : {E : Type 0} → Setting E → Kind → Fact → ℕ → State E → (Fact → State E → Tree E) → Tree E
bits_from s k x zero st go = go x st
bits_from s k x (suc b) st go = quotient s k x (pos (2 ^ suc b)) st (λ q r st'. go q st')

-- a number whose bits are all those from a place on; or those from it up to below another
abbrev pub is_upper : Kind → (lowest : ℕ) → ℤ → Bool
is_upper Int b c = int_eq (c +ℤ pos (2 ^ b)) (pos 0)
is_upper Uint b c = int_eq (c +ℤ pos (2 ^ b)) (pos 4294967296)
is_upper Size b c = int_eq (c +ℤ pos (2 ^ b)) (pos 4294967296)

abbrev pub is_run : Kind → (lowest : ℕ) → ℤ → Bool
is_run k b c = is_upper k b c || (int_lt (pos 0) c && is_power 31 (c +ℤ pos (2 ^ b)))

-- the place of the lowest bit of such a number, from 1 to n
unfoldable pub run_of : (n : ℕ) → Kind → ℤ → Option ℕ
run_of zero k c = None
run_of (suc n) k c = cond (is_run k (suc n) c) (Some (suc n)) (run_of n k c)

-- bits of x in a run from b on
abbrev pub in_run : {E : Type 0} → Setting E → Kind → Fact → (lowest : ℕ) → ℤ → State E → (Fact → State E → Tree E) → Tree E
in_run s k x b c st go =
    bits_from s k x b st (λ q st1. cond (is_upper k b c) (go (multiple (pos (2 ^ b)) q) st1)
    (left_by s k q (int_div (c +ℤ pos (2 ^ b)) (pos (2 ^ b))) st1 (λ r st2. go (multiple (pos (2 ^ b)) r) st2)))

-- what is known of `x & y` beforehand: that it is not negative where an operand is not, and what the domain tells where neither is
abbrev pub met : {E : Type 0} → Setting E → State E → Kind → Fact → Fact → E
met s st k x y =
    cond (is_from_zero (bounds_of s st x).low && is_from_zero (bounds_of s st y).low) (s.domain.mask_of (element_of s st x) (element_of s st y))
    (cond (is_natural s st k x || is_natural s st k y) (between s.domain (pos 0) (greatest k)) (any_of s.domain k))

-- it is at most each operand that is not negative
abbrev pub meet_any : {E : Type 0} → Setting E → Kind → Fact → Fact → State E → (Fact → State E → Tree E) → Tree E
meet_any s k x y st go =
    invent s (met s st k x y) st (λ r st1.
    tell_where s (is_natural s st k x) (minus x r) st1 (λ st2.
    tell_where s (is_natural s st k y) (minus y r) st2 (λ st3. go r st3)))

abbrev pub meet_by : {E : Type 0} → Setting E → Option ℕ → Kind → Fact → Fact → State E → (Fact → State E → Tree E) → Tree E
meet_by s None k x y st go = meet_any s k x y st go
meet_by s (Some b) k x y st go = in_run s k x b y.constant st go

-- the run that a form is, if it is a number
abbrev pub run_in : Kind → Fact → Option ℕ
run_in k y = cond (is_number y) (run_of 31 k y.constant) None

-- `x & y`
abbrev pub meet : {E : Type 0} → Setting E → Kind → Fact → Fact → State E → (Fact → State E → Tree E) → Tree E
meet s k x y st go = meet_by s (run_in k y) k x y st go

-- the place of the only bit of a number, from 0 to n
unfoldable pub bit_of : (n : ℕ) → ℤ → Option ℕ
bit_of zero c = cond (int_eq c (pos 1)) (Some zero) None
bit_of (suc n) c = cond (int_eq c (pos (2 ^ suc n))) (Some (suc n)) (bit_of n c)

abbrev pub bit_in : Fact → Option ℕ
bit_in y = cond (is_number y) (bit_of 30 y.constant) None

-- x with 2^b more, and so many times its bit less; it is not negative
abbrev pub with_bit : {E : Type 0} → Setting E → Kind → Fact → ℕ → (times : ℤ) → State E → (Fact → State E → Tree E) → Tree E
with_bit s k x b t st go =
    bits_from s k x b st (λ q st1. left_by s k q (pos 2) st1 (λ r st2.
    tell_where s true (minus (sum x (constant (pos (2 ^ b)))) (multiple t r)) st2 (λ st3. go (minus (sum x (constant (pos (2 ^ b)))) (multiple t r)) st3)))

-- the greatest number of as many bits, n at most
unfoldable pub widest : (n : ℕ) → ℤ → ℤ
widest zero z = pos 0
widest (suc n) z = cond (int_le z (pos (2 ^ n) -ℤ pos 1)) (widest n z) (pos (2 ^ suc n) -ℤ pos 1)

-- a value's upper end, or that of its kind
abbrev pub upper : Kind → Option ℤ → ℤ
upper k None = greatest k
upper k (Some high) = cond (int_lt high (greatest k)) high (greatest k)

abbrev pub greater : ℤ → ℤ → ℤ
greater a b = cond (int_lt a b) b a

-- two numbers that are not negative: neither has more bits than this
abbrev pub widest_of : {E : Type 0} → Setting E → State E → Kind → Fact → Fact → ℤ
widest_of s st k x y = widest 32 (greater (upper k (bounds_of s st x).high) (upper k (bounds_of s st y).high))

-- each bit is one of an operand's
abbrev pub joined : {E : Type 0} → Setting E → State E → Kind → Fact → Fact → E
joined s st k x y = between s.domain (pos 0) (widest_of s st k x y)

-- `x | y` is at least each operand, `x | y` and `x ^ y` are at most the sum
abbrev pub join_any : {E : Type 0} → Setting E → (is_or : Bool) → Kind → Fact → Fact → State E → (Fact → State E → Tree E) → Tree E
join_any s is_or k x y st go =
    invent s (joined s st k x y) st (λ r st1.
    tell_where s is_or (minus r x) st1 (λ st2.
    tell_where s is_or (minus r y) st2 (λ st3.
    tell_where s (fits (sum x y)) (minus (sum x y) r) st3 (λ st4. go r st4))))

abbrev pub join_by : {E : Type 0} → Setting E → Option ℕ → (is_or : Bool) → Kind → Fact → Fact → State E → (Fact → State E → Tree E) → Tree E
join_by s None is_or k x y st go = join_any s is_or k x y st go
join_by s (Some b) true k x y st go = with_bit s k x b (pos (2 ^ b)) st go
join_by s (Some b) false k x y st go = with_bit s k x b (pos (2 ^ suc b)) st go

-- `x | y` or `x ^ y`: of operands of which one may be negative no more is known than the kind
abbrev pub joins : {E : Type 0} → Setting E → Bool → (is_or : Bool) → Kind → Fact → Fact → State E → (Fact → State E → Tree E) → Tree E
joins s true is_or k x y st go = join_by s (bit_in y) is_or k x y st go
joins s false is_or k x y st go = invent s (any_of s.domain k) st go

abbrev pub join : {E : Type 0} → Setting E → Kind → Fact → Fact → State E → (Fact → State E → Tree E) → Tree E
join s k x y st go = joins s (is_natural s st k x && is_natural s st k y) true k x y st go

abbrev pub differ : {E : Type 0} → Setting E → Kind → Fact → Fact → State E → (Fact → State E → Tree E) → Tree E
differ s k x y st go = joins s (is_natural s st k x && is_natural s st k y) false k x y st go
