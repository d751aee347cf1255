-- Numbers that a text fixes: terms of literals, below 2^31, so that a number is the same in each kind (C99 6.6p6).
use Rattle.std.specs.Prelude.{ℕ, ◌+◌, ◌-◌, ◌*◌, ◌/◌, ◌%◌, ◌^◌, ℤ, pos, negsuc, Bool, cond, nat_lt, nat_le, nat_eq, Option, Some, None}
use Rattle.semantics.specs.Word.{Operator, Add, Subtract, Multiply, Divide, Remainder, Direction, Leftward, Rightward}
use Rattle.semantics.specs.Core.{Term, Literal, Binary, Convert, Shift}

abbrev pub small : ℕ → Option ℕ
small n = cond (nat_lt n 2147483648) (Some n) None

abbrev pub of_both : (ℕ → ℕ → Option ℕ) → Option ℕ → Option ℕ → Option ℕ
of_both f (Some a) (Some b) = f a b
of_both f a b = None

abbrev pub number_of : ℤ → Option ℕ
number_of (pos n) = small n
number_of (negsuc n) = None

abbrev pub calculated : Operator → ℕ → ℕ → Option ℕ
calculated Add a b = small (a + b)
calculated Subtract a b = cond (nat_le b a) (Some (a - b)) None
calculated Multiply a b = small (a * b)
calculated Divide a b = cond (nat_eq b 0) None (Some (a / b))
calculated Remainder a b = cond (nat_eq b 0) None (Some (a % b))
calculated op a b = None

abbrev pub shifted : Direction → ℕ → ℕ → Option ℕ
shifted Leftward a b = cond (nat_lt b 32) (small (a * 2 ^ b)) None
shifted Rightward a b = cond (nat_lt b 32) (Some (a / 2 ^ b)) None

-- the number that a term is, where it has literals alone
abbrev pub constant_of : Term → Option ℕ
constant_of (Literal kind z) = number_of z
constant_of (Binary op kind site left right) = of_both (calculated op) (constant_of left) (constant_of right)
constant_of (Convert kind site of) = constant_of of
constant_of (Shift d kind value count) = of_both (shifted d) (constant_of value) (constant_of count)
constant_of t = None
