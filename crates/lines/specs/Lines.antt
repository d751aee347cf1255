-- Texts of lines (ours): each line ends in a line feed, its words are parted by single blanks, and numbers are decimals.
use Rattle.std.specs.Prelude.{ℕ, ◌+◌, ◌-◌, ◌*◌, ◌^◌, ℤ, pos, negsuc, List, [], ◌∷◌, ◌++◌, drop, Bool, true, false, cond, not, nat_eq, nat_lt, ◌&&◌, Option, None, Some, Result, Ok, Err, fold, codes}
use Rattle.std.specs.List.{slice_split, flat_map, starts_with}
use Rattle.std.specs.Str.{all_ascii_digits}
use Rattle.lines.specs.Bytes.{is_well_spelt}

abbrev pub line_feed : ℕ
line_feed = 10

abbrev pub blank : ℕ
blank = 32

-- a text cut at each separator, which stands in no piece
abbrev pub pieces : (separator : ℕ) → List ℕ → List (List ℕ)
pieces separator text = slice_split (λ b. nat_eq b separator) text

abbrev pub words : List ℕ → List (List ℕ)
words line = pieces blank line

-- each line with its line feed
abbrev pub text_of_lines : List (List ℕ) → List ℕ
text_of_lines lines = flat_map (λ line. line ++ line_feed ∷ []) lines

-- whether none is left
abbrev pub is_empty : {A : Type 0} → List A → Bool
is_empty [] = true
is_empty (a ∷ others) = false

-- whether what comes next is after the last of what there is
abbrev pub follows : {A B : Type 0} → (A → B → Bool) → List A → B → Bool
follows is_before [] b = true
follows is_before (a ∷ []) b = is_before a b
follows is_before (a ∷ c ∷ others) b = follows is_before (c ∷ others) b

-- the one word, the two words that there are
abbrev pub sole : {A : Type 0} → List A → Option A
sole [] = None
sole (a ∷ []) = Some a
sole (a ∷ b ∷ others) = None

abbrev pub two : {A : Type 0} → List A → Option (A × A)
two [] = None
two (a ∷ []) = None
two (a ∷ b ∷ []) = Some (a, b)
two (a ∷ b ∷ c ∷ others) = None

-- the first word, and those after it
abbrev pub first : {A : Type 0} → List A → Option (A × List A)
first [] = None
first (a ∷ others) = Some (a, others)

-- why a word is no number of `i64`
pub data NumberFault : Type 0 where
  NoDecimal TooLarge : NumberFault

-- one or more digits, the first one `0` only where that is all
abbrev pub is_decimal : List ℕ → Bool
is_decimal word = all_ascii_digits word && is_well_spelt false word

-- what digits stand for, the first one counting most
abbrev pub value_of : List ℕ → ℕ
value_of digits = fold (λ n b. n * 10 + (b - 48)) 0 digits

abbrev pub within : (bound : ℕ) → {A : Type 0} → ℕ → A → Result A NumberFault
within bound n answer = cond (nat_lt n bound) (Ok answer) (Err TooLarge)

-- a number from 0 on
unfoldable pub natural_of : List ℕ → Result ℕ NumberFault
natural_of word = cond (is_decimal word) (within (2 ^ 63) (value_of word) (value_of word)) (Err NoDecimal)

-- a number below 0, without its sign: `-0` is none
abbrev pub negative_of : List ℕ → Result ℤ NumberFault
negative_of digits =
    cond (is_decimal digits && not (nat_eq (value_of digits) 0)) (within (2 ^ 63 + 1) (value_of digits) (negsuc (value_of digits - 1))) (Err NoDecimal)

abbrev pub positive_of : Result ℕ NumberFault → Result ℤ NumberFault
positive_of (Ok n) = Ok (pos n)
positive_of (Err fault) = Err fault

-- a number of either sign
unfoldable pub integer_of : List ℕ → Result ℤ NumberFault
integer_of word = cond (starts_with nat_eq word (codes "-")) (negative_of (drop 1 word)) (positive_of (natural_of word))

-- numbers of `i64`
abbrev pub is_natural : ℕ → Bool
is_natural n = nat_lt n (2 ^ 63)

abbrev pub is_integer : ℤ → Bool
is_integer (pos n) = nat_lt n (2 ^ 63)
is_integer (negsuc n) = nat_lt n (2 ^ 63)
