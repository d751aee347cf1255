-- Numbers as they are written (C99 6.4.4.1 and 6.4.4.2, with kinds of 32 bits).
use Rattle.std.specs.Prelude.{ℕ, ◌+◌, ◌*◌, ◌^◌, List, [], ◌∷◌, length, take, drop, Bool, true, false, cond, nat_eq, nat_lt, nat_le, ◌&&◌, ◌||◌, Option, Some, None, Result, Ok, Err, fold, codes}
use Rattle.std.specs.List.{prefix_len, find}
use Rattle.std.specs.Str.{bytes_eq}
use Rattle.semantics.specs.Word.{Int, Uint}
use Rattle.texts.specs.Numbers.{digit_value, is_prefixed}
use Rattle.lines.specs.Bytes.{is_decimal_digit}
use Rattle.texts.specs.Tokens.{begins_with, is_sum_sign}
use Rattle.opencl_tokens.specs.Words as vocabulary
use Rattle.opencl_tokens.specs.Faults.{TextFault, NumberTooLarge, BadNumber, LeftOut}
use Rattle.opencl_tokens.specs.Lexemes.{LexemeKind, Integer, Real}

pub data Radix : Type 0 where
  Octal Decimal Hexadecimal : Radix

abbrev pub base_of : Radix → ℕ
base_of Octal = 8
base_of Decimal = 10
base_of Hexadecimal = 16

-- a hexadecimal digit may be a letter, in either case
abbrev pub is_digit : Radix → ℕ → Bool
is_digit Octal b = nat_le 48 b && nat_le b 55
is_digit Decimal b = is_decimal_digit b
is_digit Hexadecimal b = is_decimal_digit b || ((nat_le 97 b && nat_le b 102) || (nat_le 65 b && nat_le b 70))

-- how many digits stand at the front
abbrev pub digits_len : Radix → List ℕ → ℕ
digits_len radix bytes = prefix_len (is_digit radix) bytes

-- the number that digits stand for, the first one counting most
abbrev pub value_of : Radix → List ℕ → ℕ
value_of radix digits = fold (λ n b. n * base_of radix + digit_value b) 0 digits

-- the suffix of an integer: none, `u`, or one of 64 bits
pub data Suffix : Type 0 where
  Plain Unsigned Long : Suffix

-- how each is written (6.4.4.1p1)
unfoldable pub suffixes : List (List ℕ × Suffix)
suffixes =
    ([], Plain) ∷ (codes "u", Unsigned) ∷ (codes "U", Unsigned)
    ∷ (codes "l", Long) ∷ (codes "L", Long) ∷ (codes "ll", Long) ∷ (codes "LL", Long)
    ∷ (codes "ul", Long) ∷ (codes "uL", Long) ∷ (codes "ull", Long) ∷ (codes "uLL", Long)
    ∷ (codes "Ul", Long) ∷ (codes "UL", Long) ∷ (codes "Ull", Long) ∷ (codes "ULL", Long)
    ∷ (codes "lu", Long) ∷ (codes "Lu", Long) ∷ (codes "llu", Long) ∷ (codes "LLu", Long)
    ∷ (codes "lU", Long) ∷ (codes "LU", Long) ∷ (codes "llU", Long) ∷ (codes "LLU", Long) ∷ []

abbrev pub found_suffix : Option (List ℕ × Suffix) → Option Suffix
found_suffix None = None
found_suffix (Some entry) = Some entry.1

abbrev pub suffix_of : List ℕ → Option Suffix
suffix_of bytes = found_suffix (find (λ entry. bytes_eq entry.0 bytes) suffixes)

-- an octal or hexadecimal number without suffix may be `uint` (6.4.4.1p5)
abbrev pub may_be_uint : Radix → Bool
may_be_uint Octal = true
may_be_uint Decimal = false
may_be_uint Hexadecimal = true

-- a number of 64 bits is left out
abbrev pub sized : Radix → Suffix → ℕ → Result LexemeKind TextFault
sized radix Plain n =
    cond (nat_lt n (2 ^ 31)) (Ok (Integer Int n)) (cond (may_be_uint radix && nat_lt n (2 ^ 32)) (Ok (Integer Uint n)) (Err NumberTooLarge))
sized radix Unsigned n = cond (nat_lt n (2 ^ 32)) (Ok (Integer Uint n)) (Err NumberTooLarge)
sized radix Long n = Err (LeftOut vocabulary.Long)

-- an integer has a digit
abbrev pub integer_of : Radix → (digits : List ℕ) → Suffix → Result LexemeKind TextFault
integer_of radix digits suffix = cond (nat_lt 0 (length digits)) (sized radix suffix (value_of radix digits)) (Err BadNumber)

-- the suffix of a floating constant: none or `f`; `h` is that of `half` (OpenCL 1.2, 6.1.1.1), and `l` is none of OpenCL C
abbrev pub ended : (spelling suffix : List ℕ) → Result LexemeKind TextFault
ended spelling [] = Ok (Real spelling)
ended spelling (b ∷ []) =
    cond (nat_eq b 102 || nat_eq b 70) (Ok (Real spelling)) (
    cond (nat_eq b 104 || nat_eq b 72) (Err (LeftOut vocabulary.Half)) (Err BadNumber))
ended spelling (b ∷ c ∷ bytes) = Err BadNumber

-- the digits of an exponent are decimal, one or more
abbrev pub exponent : (spelling rest : List ℕ) → Result LexemeKind TextFault
exponent spelling rest = cond (nat_lt 0 (digits_len Decimal rest)) (ended spelling (drop (digits_len Decimal rest) rest)) (Err BadNumber)

abbrev pub begins_sum_sign : List ℕ → Bool
begins_sum_sign [] = false
begins_sum_sign (b ∷ bytes) = is_sum_sign b

-- an exponent may have a sign
abbrev pub signed_exponent : (spelling rest : List ℕ) → Result LexemeKind TextFault
signed_exponent spelling rest = cond (begins_sum_sign rest) (exponent spelling (drop 1 rest)) (exponent spelling rest)

-- an exponent begins with `p` behind hexadecimal digits, and else with `e`
abbrev pub is_exponent : Radix → ℕ → Bool
is_exponent Hexadecimal b = nat_eq b 112 || nat_eq b 80
is_exponent Decimal b = nat_eq b 101 || nat_eq b 69
is_exponent Octal b = false

abbrev pub begins_exponent : Radix → List ℕ → Bool
begins_exponent radix [] = false
begins_exponent radix (b ∷ bytes) = is_exponent radix b

-- behind the digits, of which there are some: an exponent; or none, where the digits are decimal and have a point
abbrev pub behind_digits : Radix → (spelling : List ℕ) (some can_end : Bool) (rest : List ℕ) → Result LexemeKind TextFault
behind_digits radix spelling some can_end rest =
    cond (some && begins_exponent radix rest) (signed_exponent spelling (drop 1 rest)) (
    cond (some && can_end) (ended spelling rest) (Err BadNumber))

abbrev pub is_decimal : Radix → Bool
is_decimal Octal = false
is_decimal Decimal = true
is_decimal Hexadecimal = false

-- the digits behind a point; some may stand before it
abbrev pub behind_point : Radix → (spelling : List ℕ) (some : Bool) (rest : List ℕ) → Result LexemeKind TextFault
behind_point radix spelling some rest =
    behind_digits radix spelling (some || nat_lt 0 (digits_len radix rest)) (is_decimal radix) (drop (digits_len radix rest) rest)

abbrev pub behind_whole : Radix → (spelling : List ℕ) (some : Bool) (rest : List ℕ) → Result LexemeKind TextFault
behind_whole radix spelling some rest =
    cond (begins_with rest (codes ".")) (behind_point radix spelling some (drop 1 rest)) (behind_digits radix spelling some false rest)

abbrev pub real_in : Radix → (spelling bytes : List ℕ) → Result LexemeKind TextFault
real_in radix spelling bytes = behind_whole radix spelling (nat_lt 0 (digits_len radix bytes)) (drop (digits_len radix bytes) bytes)

-- a floating constant
abbrev pub real_of : (spelling : List ℕ) → Result LexemeKind TextFault
real_of spelling = cond (is_prefixed spelling) (real_in Hexadecimal spelling (drop 2 spelling)) (real_in Decimal spelling spelling)

-- digits with an integer's suffix are an integer
abbrev pub either_number : Radix → (spelling digits : List ℕ) → Option Suffix → Result LexemeKind TextFault
either_number radix spelling digits None = real_of spelling
either_number radix spelling digits (Some suffix) = integer_of radix digits suffix

abbrev pub number_in : Radix → (spelling bytes : List ℕ) → Result LexemeKind TextFault
number_in radix spelling bytes =
    either_number radix spelling (take (digits_len radix bytes) bytes) (suffix_of (drop (digits_len radix bytes) bytes))

-- past `0x` or `0X` hexadecimal, with a first digit `0` octal, else decimal
abbrev pub number_of : (spelling : List ℕ) → Result LexemeKind TextFault
number_of spelling =
    cond (is_prefixed spelling) (number_in Hexadecimal spelling (drop 2 spelling)) (
    cond (begins_with spelling (codes "0")) (number_in Octal spelling spelling) (number_in Decimal spelling spelling))
