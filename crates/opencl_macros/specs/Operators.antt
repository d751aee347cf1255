-- What the operators of a condition give (C99 6.10.1p4, 6.5). Numbers are those from 0 to 2^63 - 1; a condition in which a number below 0
-- or an unsigned one matters is left out.
use Rattle.std.specs.Prelude.{ℕ, ◌+◌, ◌-◌, ◌*◌, ◌/◌, ◌%◌, ◌^◌, Bool, true, false, cond, not, nat_eq, nat_lt, nat_le, bit_and, bit_or, bit_xor, Option, Some, None}

pub data Binary : Type 0 where
  Times Divided Rest Plus Minus ShiftLeft ShiftRight Less Greater LessEqual GreaterEqual Equal NotEqual And Xor Or Both Either : Binary

-- none where a number is undefined or left out, which is a fault only where the value of the whole depends on it
abbrev pub Value : Type 0
Value = Option ℕ

abbrev pub settled : ℕ → Value
settled n = cond (nat_lt n (2 ^ 63)) (Some n) None

abbrev pub truth : Bool → ℕ
truth true = 1
truth false = 0

abbrev pub holding : Bool → Value
holding b = Some (truth b)

abbrev pub difference : ℕ → ℕ → Value
difference a b = cond (nat_le b a) (Some (a - b)) None

abbrev pub quotient : ℕ → ℕ → Value
quotient a b = cond (nat_eq b 0) None (Some (a / b))

abbrev pub remainder : ℕ → ℕ → Value
remainder a b = cond (nat_eq b 0) None (Some (a % b))

abbrev pub shifted_left : ℕ → ℕ → Value
shifted_left a b = cond (nat_lt b 63) (settled (a * 2 ^ b)) None

abbrev pub shifted_right : ℕ → ℕ → Value
shifted_right a b = cond (nat_lt b 63) (Some (a / 2 ^ b)) None

-- operators that have both operands
abbrev pub reckoned : Binary → ℕ → ℕ → Value
reckoned Times a b = settled (a * b)
reckoned Divided a b = quotient a b
reckoned Rest a b = remainder a b
reckoned Plus a b = settled (a + b)
reckoned Minus a b = difference a b
reckoned ShiftLeft a b = shifted_left a b
reckoned ShiftRight a b = shifted_right a b
reckoned Less a b = holding (nat_lt a b)
reckoned Greater a b = holding (nat_lt b a)
reckoned LessEqual a b = holding (nat_le a b)
reckoned GreaterEqual a b = holding (nat_le b a)
reckoned Equal a b = holding (nat_eq a b)
reckoned NotEqual a b = holding (not (nat_eq a b))
reckoned And a b = settled (bit_and a b)
reckoned Xor a b = settled (bit_xor a b)
reckoned Or a b = settled (bit_or a b)
reckoned op a b = None

abbrev pub on_two : Value → Value → (ℕ → ℕ → Value) → Value
on_two (Some a) (Some b) next = next a b
on_two a b next = None

abbrev pub truth_in : Value → Value
truth_in None = None
truth_in (Some n) = holding (not (nat_eq n 0))

-- what stands behind `&&` counts only behind a number that is not 0, and behind `||` only behind 0 (6.5.13, 6.5.14)
abbrev pub both_hold : Value → Value → Value
both_hold None b = None
both_hold (Some n) b = cond (nat_eq n 0) (holding false) (truth_in b)

abbrev pub one_holds : Value → Value → Value
one_holds None b = None
one_holds (Some n) b = cond (nat_eq n 0) (truth_in b) (holding true)

abbrev pub binary : Binary → Value → Value → Value
binary Both a b = both_hold a b
binary Either a b = one_holds a b
binary op a b = on_two a b (reckoned op)

abbrev pub negated : Value → Value
negated None = None
negated (Some n) = holding (nat_eq n 0)

-- of two values one is chosen
abbrev pub choice : Value → Value → Value → Value
choice None a b = None
choice (Some n) a b = cond (nat_eq n 0) b a

-- how tight each binds (6.5)
abbrev pub tightness : Binary → ℕ
tightness Times = 11
tightness Divided = 11
tightness Rest = 11
tightness Plus = 10
tightness Minus = 10
tightness ShiftLeft = 9
tightness ShiftRight = 9
tightness Less = 8
tightness Greater = 8
tightness LessEqual = 8
tightness GreaterEqual = 8
tightness Equal = 7
tightness NotEqual = 7
tightness And = 6
tightness Xor = 5
tightness Or = 4
tightness Both = 3
tightness Either = 2
