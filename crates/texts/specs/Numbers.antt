-- Numbers as they are written (C99 6.4.4.1 without octal numbers and with the suffix `u` alone; kinds of 32 bits).
use Rattle.std.specs.Prelude.{ℕ, ◌+◌, ◌-◌, ◌*◌, ◌^◌, List, [], ◌∷◌, take, drop, Bool, true, false, cond, not, nat_eq, nat_lt, nat_le, ◌&&◌, ◌||◌, Result, Ok, Err, fold, codes}
use Rattle.std.specs.List.{prefix_len, starts_with}
use Rattle.lines.specs.Bytes.{is_decimal_digit, is_well_spelt}
use Rattle.semantics.specs.Word.{Kind, Int, Uint, Size}
use Rattle.texts.specs.Faults.{TextFault, NumberTooLarge, BadNumber}

-- a number, and the kind that it has without a conversion
pub record Literal : Type 0 where
  pub kind : Kind
  pub value : ℕ

-- a digit of a hexadecimal number, in either case of letters, or of a decimal one
abbrev pub is_digit : (hexadecimal : Bool) → ℕ → Bool
is_digit true b = is_decimal_digit b || ((nat_le 97 b && nat_le b 102) || (nat_le 65 b && nat_le b 70))
is_digit false b = is_decimal_digit b

-- what a digit stands for: `0` is the byte 48, `a` 97, `A` 65
abbrev pub digit_value : ℕ → ℕ
digit_value b = cond (is_decimal_digit b) (b - 48) (cond (nat_le 97 b) (b - 87) (b - 55))

-- 16 or 10
abbrev pub base_of : (hexadecimal : Bool) → ℕ
base_of true = 16
base_of false = 10

-- the number that digits stand for, the first one counting most
abbrev pub value_of : (hexadecimal : Bool) → List ℕ → ℕ
value_of hexadecimal digits = fold (λ n b. n * base_of hexadecimal + digit_value b) 0 digits

-- a number that a literal of a kind has: of sizes there is none
abbrev pub is_literal : Kind → ℕ → Bool
is_literal Int n = nat_lt n (2 ^ 31)
is_literal Uint n = nat_lt n (2 ^ 32)
is_literal Size n = false

-- a number without suffix is `int` where that has it; only a hexadecimal one may be `uint` then (C99 6.4.4.1p5)
abbrev pub sized : (hexadecimal suffixed : Bool) → ℕ → Result Literal TextFault
sized hexadecimal suffixed n =
    cond (not suffixed && nat_lt n (2 ^ 31)) (Ok (record { kind = Int; value = n }))
    (cond ((suffixed || hexadecimal) && nat_lt n (2 ^ 32)) (Ok (record { kind = Uint; value = n })) (Err NumberTooLarge))

-- what may follow the digits: nothing, or one `u` or `U`
abbrev pub with_suffix : (hexadecimal : Bool) → ℕ → List ℕ → Result Literal TextFault
with_suffix hexadecimal n [] = sized hexadecimal false n
with_suffix hexadecimal n (b ∷ []) = cond (nat_eq b 117 || nat_eq b 85) (sized hexadecimal true n) (Err BadNumber)
with_suffix hexadecimal n (b ∷ c ∷ bytes) = Err BadNumber

-- n digits and what follows them
abbrev pub split_number : (hexadecimal : Bool) (n : ℕ) → List ℕ → Result Literal TextFault
split_number hexadecimal n bytes =
    cond (is_well_spelt hexadecimal (take n bytes)) (with_suffix hexadecimal (value_of hexadecimal (take n bytes)) (drop n bytes)) (Err BadNumber)

-- as many digits as there are, and what follows them
abbrev pub number_in : (hexadecimal : Bool) → List ℕ → Result Literal TextFault
number_in hexadecimal bytes = split_number hexadecimal (prefix_len (is_digit hexadecimal) bytes) bytes

-- what a hexadecimal number begins with
abbrev pub is_prefixed : List ℕ → Bool
is_prefixed word = starts_with nat_eq word (codes "0x") || starts_with nat_eq word (codes "0X")

-- a whole word read as a number: past `0x` or `0X` hexadecimal, else decimal
abbrev pub number_of : List ℕ → Result Literal TextFault
number_of word = cond (is_prefixed word) (number_in true (drop 2 word)) (number_in false word)
