-- Bytes of words and numbers (C99 6.4.2.1 and 6.4.4.1).
use Rattle.std.specs.Prelude.{ℕ, List, [], ◌∷◌, Bool, true, false, not, nat_eq, nat_le, ◌&&◌, ◌||◌}

-- `0` to `9`
abbrev pub is_decimal_digit : ℕ → Bool
is_decimal_digit b = nat_le 48 b && nat_le b 57

-- a letter or `_`
abbrev pub is_letter : ℕ → Bool
is_letter b = (nat_le 97 b && nat_le b 122) || ((nat_le 65 b && nat_le b 90) || nat_eq b 95)

-- what a name, a reserved word or a number goes on with
abbrev pub is_word_byte : ℕ → Bool
is_word_byte b = is_letter b || is_decimal_digit b

-- hexadecimal digits are one or more; decimal ones begin with `0` only where that is all
abbrev pub is_well_spelt : (hexadecimal : Bool) → List ℕ → Bool
is_well_spelt hexadecimal [] = false
is_well_spelt hexadecimal (a ∷ []) = true
is_well_spelt hexadecimal (a ∷ b ∷ digits) = hexadecimal || not (nat_eq a 48)
