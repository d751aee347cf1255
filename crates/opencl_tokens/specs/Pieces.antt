-- What stands at the front of joined lines (C99 6.4): a blank, a line's end, a token or a fault. The longest is taken (6.4p4).
use Rattle.std.specs.Prelude.{ℕ, ◌+◌, List, [], ◌∷◌, length, take, drop, Bool, false, cond, not, nat_eq, ◌&&◌, ◌||◌, Option, Some, None, codes}
use Rattle.std.specs.List.{prefix_len, position_or_len, find}
use Rattle.lines.specs.Bytes.{is_decimal_digit}
use Rattle.texts.specs.Tokens.{begins_with, is_exponent, is_sum_sign, is_line_feed, comment_end}
use Rattle.lines.specs.Bytes.{is_letter, is_word_byte}
use Rattle.opencl_tokens.specs.Faults.{TextFault, BadByte, OpenComment}
use Rattle.opencl_tokens.specs.Signs.{Sign, signs}
use Rattle.opencl_tokens.specs.Tokens.{TokenKind, Name, Number, Character, Text, Mark, Other}

-- a piece with the number of its bytes; a line's end has one, and a fault is at the first byte
pub data Piece : Type 0 where
  Blank : (count : ℕ) → Piece
  Line : Piece
  Has : (kind : TokenKind) (count : ℕ) → Piece
  Bad : (fault : TextFault) → Piece

-- space, tab, vertical tab, form feed
abbrev pub is_blank : ℕ → Bool
is_blank b = (nat_eq b 32 || nat_eq b 9) || (nat_eq b 11 || nat_eq b 12)

-- `'` is 39 and `"` 34
abbrev pub is_quote : ℕ → Bool
is_quote b = nat_eq b 39 || nat_eq b 34

-- an `L` directly before a quote, which begins a constant of wide characters (6.4.4.4p1, 6.4.5p1)
abbrev pub begins_wide : List ℕ → Bool
begins_wide [] = false
begins_wide (a ∷ []) = false
begins_wide (a ∷ b ∷ bytes) = nat_eq a 76 && is_quote b

-- the word at the front
abbrev pub name_piece : List ℕ → (count : ℕ) → Piece
name_piece bytes count = Has (Name (take count bytes)) count

-- a number begins with a digit, or with a point and a digit (6.4.8)
abbrev pub begins_number : List ℕ → Bool
begins_number [] = false
begins_number (a ∷ []) = is_decimal_digit a
begins_number (a ∷ b ∷ bytes) = is_decimal_digit a || (nat_eq a 46 && is_decimal_digit b)

-- and goes on with letters, digits and points, and with a sign behind an exponent's letter
abbrev pub goes_on : (before b : ℕ) → Bool
goes_on before b = (is_word_byte b || nat_eq b 46) || (is_exponent before && is_sum_sign b)

-- how many bytes of a number follow a byte
abbrev pub number_len : (before : ℕ) → List ℕ → ℕ
number_len before [] = 0
number_len before (b ∷ bytes) = cond (goes_on before b) (1 + number_len b bytes) 0

-- the number at the front, whose first byte follows none
abbrev pub number_piece : List ℕ → (count : ℕ) → Piece
number_piece bytes count = Has (Number (take count bytes)) count

-- the last byte of a trigraph: one of `= ( / ) ' < ! > -` (5.2.1.1)
abbrev pub ends_trigraph : ℕ → Bool
ends_trigraph b =
    ((nat_eq b 61 || nat_eq b 40) || (nat_eq b 47 || nat_eq b 41))
    || ((nat_eq b 39 || nat_eq b 60) || (nat_eq b 33 || (nat_eq b 62 || nat_eq b 45)))

-- a trigraph: `??` and one of those
abbrev pub is_trigraph : List ℕ → Bool
is_trigraph [] = false
is_trigraph (a ∷ []) = false
is_trigraph (a ∷ b ∷ []) = false
is_trigraph (a ∷ b ∷ c ∷ bytes) = (nat_eq a 63 && nat_eq b 63) && ends_trigraph c

-- a line's end (6.4.4.4, 6.4.5) or a trigraph (ours): no character constant and no string goes over it
abbrev pub ends_quoted : (b : ℕ) → List ℕ → Bool
ends_quoted b bytes = is_line_feed b || is_trigraph bytes

-- a quote closes what such a quote opened, unless a `\` stands before it
abbrev pub closes : (quote : ℕ) (escaped : Bool) (b : ℕ) → Bool
closes quote escaped b = not escaped && nat_eq b quote

abbrev pub escapes : (escaped : Bool) (b : ℕ) → Bool
escapes escaped b = not escaped && nat_eq b 92

-- the offset behind the quote that closes a character constant or a string
abbrev pub quoted_end : (quote : ℕ) (escaped : Bool) (at : ℕ) → List ℕ → Option ℕ
quoted_end quote escaped at [] = None
quoted_end quote escaped at (b ∷ bytes) =
    cond (ends_quoted b (b ∷ bytes)) None (
    cond (closes quote escaped b) (Some (at + 1))
    (quoted_end quote (escapes escaped b) (at + 1) bytes))

abbrev pub quoted_kind : (quote : ℕ) (spelling : List ℕ) → TokenKind
quoted_kind quote spelling = cond (nat_eq quote 39) (Character spelling) (Text spelling)

abbrev pub quoted_piece : (quote : ℕ) → List ℕ → Option ℕ → Piece
quoted_piece quote bytes None = Bad BadByte
quoted_piece quote bytes (Some count) = Has (quoted_kind quote (take count bytes)) count

-- a comment that nothing closes is a fault (6.4.9)
abbrev pub comment_piece : Option ℕ → Piece
comment_piece None = Bad OpenComment
comment_piece (Some count) = Blank count

-- what begins no token is a token of one byte (6.4p1)
abbrev pub sign_piece : (b : ℕ) → Option (List ℕ × Sign) → Piece
sign_piece b None = Has (Other b) 1
sign_piece b (Some entry) = Has (Mark entry.1) (length entry.0)

-- a comment, a trigraph or a sign: a line comment ends before its line feed (6.4.9), and of the signs the first in the table is taken
abbrev pub mark_piece : (b : ℕ) → List ℕ → Piece
mark_piece b bytes =
    cond (begins_with bytes (codes "//")) (Blank (position_or_len is_line_feed bytes)) (
    cond (begins_with bytes (codes "/*")) (comment_piece (comment_end 2 (drop 2 bytes))) (
    cond (is_trigraph bytes) (Bad BadByte)
    (sign_piece b (find (λ entry. begins_with bytes entry.0) signs))))

-- a word; wide characters are left out (ours)
abbrev pub word_piece : List ℕ → Piece
word_piece bytes = cond (begins_wide bytes) (Bad BadByte) (name_piece bytes (prefix_len is_word_byte bytes))

-- a word, a number, a character constant or a string
abbrev pub spelt_piece : (b : ℕ) → List ℕ → Piece
spelt_piece b bytes =
    cond (is_letter b) (word_piece bytes) (
    cond (begins_number bytes) (number_piece bytes (number_len 0 bytes)) (
    cond (is_quote b) (quoted_piece b bytes (quoted_end b false 1 (drop 1 bytes)))
    (mark_piece b bytes)))

-- the piece at the front of bytes of which b is the first
abbrev pub piece : (b : ℕ) → List ℕ → Piece
piece b bytes = cond (is_line_feed b) Line (cond (is_blank b) (Blank 1) (spelt_piece b bytes))
