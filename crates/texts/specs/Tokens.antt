-- The tokens of a text: one definition reads every list of bytes, as tokens or as the first fault in it
-- (C99 6.4 with the tokens of OpenCL 1.2 that this profile keeps; the limit and the faults are ours).
use Rattle.std.specs.Prelude.{ℕ, zero, suc, ◌+◌, ◌-◌, List, [], ◌∷◌, ◌++◌, length, take, drop, Bool, true, cond, nat_eq, nat_lt, nat_le, ◌&&◌, ◌||◌, Option, Some, None, Result, Ok, Err, fold, codes, slice_index_or, not}
use Rattle.std.specs.List.{prefix_len, position_or_len, take_while, starts_with, find}
use Rattle.std.specs.Str.{bytes_eq}
pub use Rattle.semantics.specs.Core.{Site}
use Rattle.texts.specs.Signs.{Sign, signs}
use Rattle.texts.specs.Reserved.{Reserved, reserved_words}
use Rattle.texts.specs.Faults.{TextFault, BadByte, OpenComment, BadNumber, TextTooLong}
use Rattle.texts.specs.Numbers.{Literal, number_of}
use Rattle.lines.specs.Bytes.{is_letter, is_word_byte, is_decimal_digit}

-- what a token is: a name has its bytes; `End` stands at the end of each text
pub data TokenKind : Type 0 where
  Name : (name : List ℕ) → TokenKind
  End : TokenKind
  Word : (word : Reserved) → TokenKind
  Number : (literal : Literal) → TokenKind
  Mark : (sign : Sign) → TokenKind

-- a token, the offsets of its first byte and of the byte after it, and where it begins
pub record Token : Type 0 where
  pub kind : TokenKind
  pub start : ℕ
  pub stop : ℕ
  pub site : Site

-- the tokens, or the first fault and where that begins
abbrev pub Lexed : Type 0
Lexed = Result (List Token) (TextFault × Site)

-- where the next byte stands: after a line feed at the head of a line, else one column on
abbrev pub past : Site → ℕ → Site
past site b = cond (nat_eq b 10) (record { line = site.line + 1; column = 1 }) (record { line = site.line; column = site.column + 1 })

-- where a text begins
abbrev pub first_site : Site
first_site = record { line = 1; column = 1 }

-- line and column of an offset
abbrev pub site_of : List ℕ → ℕ → Site
site_of text at = fold past first_site (take at text)

-- space, tab, line feed, carriage return
abbrev pub is_blank : ℕ → Bool
is_blank b = (nat_eq b 32 || nat_eq b 9) || (nat_eq b 10 || nat_eq b 13)

-- what ends a line
abbrev pub is_line_feed : ℕ → Bool
is_line_feed b = nat_eq b 10

-- what an exponent begins with (C99 6.4.8): the language has none
abbrev pub is_exponent : ℕ → Bool
is_exponent b = (nat_eq b 101 || nat_eq b 69) || (nat_eq b 112 || nat_eq b 80)

-- `+` or `-`
abbrev pub is_sum_sign : ℕ → Bool
is_sum_sign b = nat_eq b 43 || nat_eq b 45

-- whether these bytes stand at the front
abbrev pub begins_with : (bytes front : List ℕ) → Bool
begins_with bytes front = starts_with nat_eq bytes front

-- the offset after the first `*/`, where the bytes begin at the offset `at`
abbrev pub comment_end : (at : ℕ) → List ℕ → Option ℕ
comment_end at [] = None
comment_end at (b ∷ bytes) = cond (begins_with (b ∷ bytes) (codes "*/")) (Some (at + 2)) (comment_end (at + 1) bytes)

-- what a compiler passes over between a `\` and its line's end: space, tab, vertical tab, form feed and the byte 0
abbrev pub is_padding : ℕ → Bool
is_padding b = (nat_eq b 32 || nat_eq b 9) || (nat_eq b 11 || (nat_eq b 12 || nat_eq b 0))

-- nothing else stands up to a line feed, a carriage return or the text's end
abbrev pub is_line_over : List ℕ → Bool
is_line_over [] = true
is_line_over (b ∷ bytes) = (nat_eq b 10 || nat_eq b 13) || (is_padding b && is_line_over bytes)

-- a compiler joins the next line to this one: at a `\`, or at the trigraph `??/` for it, that ends its line (C99 5.1.1.2p1)
abbrev pub joins_lines : List ℕ → Bool
joins_lines bytes = (begins_with bytes (92 ∷ []) && is_line_over (drop 1 bytes)) || (begins_with bytes (codes "??/") && is_line_over (drop 3 bytes))

-- a carriage return that no line feed follows: compilers end a line there
abbrev pub is_lone_return : List ℕ → Bool
is_lone_return bytes = begins_with bytes (13 ∷ []) && not (begins_with bytes (13 ∷ 10 ∷ []))

-- where a compiler reads a line comment otherwise than up to its line feed
abbrev pub leaves_line : List ℕ → Bool
leaves_line bytes = joins_lines bytes || is_lone_return bytes

-- the first of `count` places where the bytes from there on pass, where the first of them is at the offset `at`
abbrev pub first_place : (test : List ℕ → Bool) → (at count : ℕ) → List ℕ → Option ℕ
first_place test at zero bytes = None
first_place test at (suc count) [] = None
first_place test at (suc count) (b ∷ bytes) = cond (test (b ∷ bytes)) (Some at) (first_place test (at + 1) count bytes)

-- what stands at the front of a text, with the number of its bytes, or of those before its fault
pub data Piece : Type 0 where
  Gap : (count : ℕ) → Piece
  Has : (kind : TokenKind) (count : ℕ) → Piece
  Bad : (fault : TextFault) (before : ℕ) → Piece

-- a comment in which a compiler reads on otherwise is a fault there
abbrev pub comment_gap : (place : Option ℕ) → (count : ℕ) → Piece
comment_gap None count = Gap count
comment_gap (Some at) count = Bad BadByte at

-- a comment of so many bytes, in which nothing passes
abbrev pub gap_without : (test : List ℕ → Bool) → (count : ℕ) → List ℕ → Piece
gap_without test count bytes = comment_gap (first_place test 0 count bytes) count

-- a comment that nothing ends is a fault (C99 6.4.9)
abbrev pub comment_piece : List ℕ → Option ℕ → Piece
comment_piece bytes None = Bad OpenComment 0
comment_piece bytes (Some count) = gap_without joins_lines count bytes

-- a word is reserved where it is in the table, else a name
abbrev pub word_kind : (word : List ℕ) → Option (List ℕ × Reserved) → TokenKind
word_kind word None = Name word
word_kind word (Some entry) = Word entry.1

-- a sign behind a number that ends in `e` or `p` is part of it (C99 6.4.8)
abbrev pub goes_on : (word rest : List ℕ) → Bool
goes_on word rest = is_exponent (slice_index_or word (length word - 1) 0) && is_sum_sign (slice_index_or rest 0 0)

-- and such a number is none
abbrev pub number_before : (word rest : List ℕ) → Result Literal TextFault
number_before word rest = cond (goes_on word rest) (Err BadNumber) (number_of word)

-- a word that is no number is a fault
abbrev pub number_piece : Result Literal TextFault → (count : ℕ) → Piece
number_piece (Ok literal) count = Has (Number literal) count
number_piece (Err fault) count = Bad fault 0

-- what is nothing else is a sign or a fault
abbrev pub sign_piece : Option (List ℕ × Sign) → Piece
sign_piece None = Bad BadByte 0
sign_piece (Some entry) = Has (Mark entry.1) (length entry.0)

-- the piece at the front of bytes of which b is the first (C99 6.4p4: the longest). Names, reserved words and numbers
-- take all word bytes that follow, so a digit followed by letters is one number, well spelt or not; a line comment ends
-- before its line feed (6.4.9), and a comment in which a compiler would read on otherwise is a fault; of the signs the first
-- in the table is taken, which is the longest
abbrev pub piece : ℕ → List ℕ → Piece
piece b bytes =
    cond (is_blank b) (Gap 1) (
    cond (is_letter b) (Has (word_kind (take_while is_word_byte bytes) (find (λ entry. bytes_eq entry.0 (take_while is_word_byte bytes)) reserved_words)) (prefix_len is_word_byte bytes)) (
    cond (is_decimal_digit b) (number_piece (number_before (take_while is_word_byte bytes) (drop (prefix_len is_word_byte bytes) bytes)) (prefix_len is_word_byte bytes)) (
    cond (begins_with bytes (codes "//")) (gap_without leaves_line (position_or_len is_line_feed bytes) bytes) (
    cond (begins_with bytes (codes "/*")) (comment_piece bytes (comment_end 2 (drop 2 bytes))) (
    sign_piece (find (λ entry. begins_with bytes entry.0) signs))))))

-- tokens before all that was read
abbrev pub in_front : List Token → Lexed → Lexed
in_front front (Ok tokens) = Ok (front ++ tokens)
in_front front (Err e) = Err e

-- a token of `count` bytes at an offset
abbrev pub token_at : (text : List ℕ) → TokenKind → (at count : ℕ) → Token
token_at text kind at count = record { kind = kind; start = at; stop = at + count; site = site_of text at }

-- a piece, and then what `go` reads after that many more bytes are passed over; or a fault, at its own byte
abbrev pub next : (text : List ℕ) → Piece → (at : ℕ) → (ℕ → Lexed) → Lexed
next text (Gap count) at go = go (count - 1)
next text (Has kind count) at go = in_front (token_at text kind at count ∷ []) (go (count - 1))
next text (Bad fault before) at go = Err (fault, site_of text (at + before))

-- piece after piece: `skip` bytes belong to the piece before, and the bytes left begin at the offset `at` of the text
abbrev pub tokens : (text : List ℕ) (skip at : ℕ) → List ℕ → Lexed
tokens text skip at [] = Ok (token_at text End at 0 ∷ [])
tokens text zero at (b ∷ bytes) = next text (piece b (b ∷ bytes)) at (λ skip. tokens text skip (at + 1) bytes)
tokens text (suc skip) at (b ∷ bytes) = tokens text skip (at + 1) bytes

-- what a text says: a text over 65,536 bytes is refused before all else
abbrev pub tokens_of : List ℕ → Lexed
tokens_of text = cond (nat_lt 65536 (length text)) (Err (TextTooLong, first_site)) (tokens text 0 0 text)
