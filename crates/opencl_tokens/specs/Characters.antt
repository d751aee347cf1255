-- Character constants (C99 6.4.4.4): one character of ASCII, or one escape.
use Rattle.std.specs.Prelude.{ℕ, ◌+◌, ◌-◌, List, [], ◌∷◌, length, take, drop, cond, not, nat_eq, nat_lt, nat_le, ◌&&◌, Option, Some, None, Result, Ok, Err}
use Rattle.std.specs.List.{find}
use Rattle.semantics.specs.Word.{Int}
use Rattle.opencl_tokens.specs.Faults.{TextFault, BadNumber}
use Rattle.opencl_tokens.specs.Lexemes.{LexemeKind, Integer}
use Rattle.opencl_tokens.specs.Numbers.{Radix, Octal, Hexadecimal, is_digit, digits_len, value_of}

-- a `char` is signed (OpenCL 1.2, 6.1.1): of 128 and more it is the number 256 below, here as its 32 bits
abbrev pub character : ℕ → LexemeKind
character n = cond (nat_lt n 128) (Integer Int n) (Integer Int (n + 4294967040))

-- an escape's number is one of a byte (6.4.4.4p9)
abbrev pub byte : ℕ → Result LexemeKind TextFault
byte n = cond (nat_lt n 256) (Ok (character n)) (Err BadNumber)

-- an escape by its digits, one or more
abbrev pub numbered : Radix → (digits : List ℕ) → Result LexemeKind TextFault
numbered radix digits =
    cond (nat_lt 0 (length digits) && nat_eq (digits_len radix digits) (length digits)) (byte (value_of radix digits)) (Err BadNumber)

-- what stands behind the `\` of a simple escape, and its number: `' " ? \ a b f n r t v`
unfoldable pub escapes : List (ℕ × ℕ)
escapes = (39, 39) ∷ (34, 34) ∷ (63, 63) ∷ (92, 92) ∷ (97, 7) ∷ (98, 8) ∷ (102, 12) ∷ (110, 10) ∷ (114, 13) ∷ (116, 9) ∷ (118, 11) ∷ []

abbrev pub simple : Option (ℕ × ℕ) → Result LexemeKind TextFault
simple None = Err BadNumber
simple (Some entry) = Ok (character entry.1)

-- bytes behind a `\`, of which `c` is the first: 120 is `x`, and octal digits are up to three
abbrev pub escape : (c : ℕ) → List ℕ → Result LexemeKind TextFault
escape c bytes =
    cond (nat_eq c 120) (numbered Hexadecimal (drop 1 bytes)) (
    cond (is_digit Octal c && nat_le (length bytes) 3) (numbered Octal bytes) (
    cond (nat_eq (length bytes) 1) (simple (find (λ entry. nat_eq entry.0 c) escapes)) (Err BadNumber)))

-- one byte for itself, which is no `\`
abbrev pub plain : ℕ → Result LexemeKind TextFault
plain b = cond (nat_lt b 128 && not (nat_eq b 92)) (Ok (character b)) (Err BadNumber)

-- what stands between the quotes
abbrev pub character_in : List ℕ → Result LexemeKind TextFault
character_in [] = Err BadNumber
character_in (b ∷ []) = plain b
character_in (b ∷ c ∷ bytes) = cond (nat_eq b 92) (escape c (c ∷ bytes)) (Err BadNumber)

-- a constant with its quotes
abbrev pub character_of : (spelling : List ℕ) → Result LexemeKind TextFault
character_of spelling = cond (nat_lt (length spelling) 2) (Err BadNumber) (character_in (take (length spelling - 2) (drop 1 spelling)))
