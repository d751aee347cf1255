-- Numbers, names and first words of lines, read from the left.
use Rattle.std.specs.Prelude.{ℕ, zero, suc, ◌+◌, ℤ, pos, negsuc, List, [], ◌∷◌, ◌++◌, length, take, drop, Bool, false, cond, not, nat_eq, nat_le, ◌&&◌, ◌||◌, Option, None, Some, Result, Ok, Err, bytes_eq, codes}
use Rattle.std.specs.List.{prefix_len, starts_with}
use Rattle.semantics.specs.Word.{Kind, Word, word, in_kind}
use Rattle.lines.specs.Bytes.{is_decimal_digit}
use Rattle.lines.specs.Bytes.{is_letter, is_word_byte}
use Rattle.lines.specs.Lines.{line_feed, blank, is_empty, NumberFault, NoDecimal, TooLarge, integer_of}
use Rattle.texts.specs.Surface.{Parameter, Buffer, Value}
use Rattle.launch_text.specs.LaunchFaults.{Expected, UnknownName, MissingLine, LimitPassed, Cursor, Step, refused, then, found, past, expect, end_line}

-- how many bytes the number at the front has: digits, behind a `-` where there is one
abbrev pub number_length : List ℕ → ℕ
number_length bytes =
    cond (starts_with nat_eq bytes (codes "-")) (1 + prefix_len is_decimal_digit (drop 1 bytes)) (prefix_len is_decimal_digit bytes)

abbrev pub number_found : Result ℤ NumberFault → Cursor → Step (ℤ × Cursor)
number_found (Ok z) c = Ok (z, c)
number_found (Err NoDecimal) c = refused Expected c
number_found (Err TooLarge) c = refused LimitPassed c

-- a number of either sign; one that `i64` lacks passes every limit
unfoldable pub number_at : Cursor → Step (ℤ × Cursor)
number_at c = number_found (integer_of (take (number_length c.rest) c.rest)) (past (number_length c.rest) c)

abbrev pub natural_within : (least most : ℕ) → ℤ → Option ℕ
natural_within least most (pos n) = cond (nat_le least n && nat_le n most) (Some n) None
natural_within least most (negsuc n) = None

unfoldable pub natural_at : (least most : ℕ) → Cursor → Step (ℕ × Cursor)
natural_at least most c = then (number_at c) (λ t. found (natural_within least most t.0) LimitPassed t.1)

abbrev pub word_within : Kind → ℤ → Option Word
word_within k z = cond (in_kind k z) (Some (word k z)) None

-- a number of a kind
unfoldable pub word_at : Kind → Cursor → Step (Word × Cursor)
word_at k c = then (number_at c) (λ t. found (word_within k t.0) LimitPassed t.1)

abbrev pub factor_within : ℤ → Option ℤ
factor_within (pos n) = cond (nat_le n 4294967295) (Some (pos n)) None
factor_within (negsuc n) = cond (nat_le (n + 1) 4294967295) (Some (negsuc n)) None

-- a number of a sum
unfoldable pub factor_at : Cursor → Step (ℤ × Cursor)
factor_at c = then (number_at c) (λ t. found (factor_within t.0) LimitPassed t.1)

abbrev pub begins_name : List ℕ → Bool
begins_name [] = false
begins_name (b ∷ bytes) = is_letter b

-- a letter or `_`, and all letters, digits and `_` that follow
unfoldable pub name_at : Cursor → Step (List ℕ × Cursor)
name_at c =
    cond (begins_name c.rest) (Ok (take (prefix_len is_word_byte c.rest) c.rest, past (prefix_len is_word_byte c.rest) c)) (refused Expected c)

abbrev pub name_of : Parameter → List ℕ
name_of (Buffer constant kind site name) = name
name_of (Value kind site name) = name

-- whether the kernel has a parameter of this name
abbrev pub is_known : List Parameter → List ℕ → Bool
is_known [] name = false
is_known (p ∷ ps) name = bytes_eq (name_of p) name || is_known ps name

-- the name of the parameter that is due
unfoldable pub parameter_at : List Parameter → (due : List ℕ) → Cursor → Step Cursor
parameter_at ps due c =
    then (name_at c) (λ t. cond (bytes_eq t.0 due) (Ok t.1) (cond (is_known ps t.0) (refused MissingLine t.1) (refused UnknownName t.1)))

-- the two texts
pub data Form : Type 0 where
  Conditions Launch : Form

-- the first words of a text's lines
abbrev pub is_keyword : Form → List ℕ → Bool
is_keyword Conditions word =
    (bytes_eq word (codes "conditions") || bytes_eq word (codes "groups")) || ((bytes_eq word (codes "arg") || bytes_eq word (codes "length"))
    || (bytes_eq word (codes "require") || bytes_eq word (codes "budget")))
is_keyword Launch word =
    (bytes_eq word (codes "launch") || bytes_eq word (codes "groups")) || (bytes_eq word (codes "arg") || (bytes_eq word (codes "buffer") || bytes_eq word (codes "fill")))

abbrev pub is_in_word : ℕ → Bool
is_in_word b = not (nat_eq b blank || nat_eq b line_feed)

-- up to the first blank, or the line's end
abbrev pub first_word : List ℕ → List ℕ
first_word bytes = take (prefix_len is_in_word bytes) bytes

-- the line that is due, past its first word: where another line of this text stands, or the text ends, it is missing
unfoldable pub due : Form → (keyword : List ℕ) → Cursor → Step Cursor
due form keyword c =
    cond (is_empty c.rest) (refused MissingLine c) (
    cond (bytes_eq (first_word c.rest) keyword) (Ok (past (length keyword) c)) (
    cond (is_keyword form (first_word c.rest)) (refused MissingLine c) (refused Expected c)))

-- a line that is due, and a blank
unfoldable pub due_blank : Form → (keyword : List ℕ) → Cursor → Step Cursor
due_blank form keyword c = then (due form keyword c) (expect (codes " "))

-- the first line
unfoldable pub head_line : Form → (keyword : List ℕ) → Cursor → Step Cursor
head_line form keyword c = then (due form keyword c) (λ d. then (expect (codes " 1") d) end_line)

-- a line of the parameter that is due, and a blank
unfoldable pub due_parameter : Form → (keyword : List ℕ) → List Parameter → (name : List ℕ) → Cursor → Step Cursor
due_parameter form keyword ps name c =
    then (due_blank form keyword c) (λ a. then (parameter_at ps name a) (expect (codes " ")))

-- the line of a parameter, where one is due, and what follows
abbrev pub go_on : {A : Type 0} → Option (Cursor → Step (A × Cursor)) → List A → Cursor → (List A → Cursor → Step (List A × Cursor)) → Step (List A × Cursor)
go_on None done c others = others done c
go_on (Some line) done c others = then (line c) (λ t. others (done ++ t.0 ∷ []) t.1)

-- a line for each parameter of which one is due, behind those that there are
unfoldable pub each : {A : Type 0} → (line : List A → Parameter → Option (Cursor → Step (A × Cursor))) → List A → List Parameter → Cursor → Step (List A × Cursor)
each line done [] c = Ok (done, c)
each line done (p ∷ ps) c = go_on (line done p) done c (λ more d. each line more ps d)

-- lines of this first word, as many as there are, behind those before them; at most as many as there is room for
unfoldable pub several : {A : Type 0} → (keyword : List ℕ) → (line : Cursor → Step (A × Cursor)) → (room : ℕ) → List A → Cursor → Step (List A × Cursor)
several keyword line zero done c = cond (bytes_eq (first_word c.rest) keyword) (refused LimitPassed c) (Ok (done, c))
several keyword line (suc room) done c =
    cond (bytes_eq (first_word c.rest) keyword) (then (line c) (λ t. several keyword line room (done ++ t.0 ∷ []) t.1)) (Ok (done, c))

-- the text's end
unfoldable pub end_text : Cursor → Step (Unit {0})
end_text c = cond (is_empty c.rest) (Ok tt) (refused Expected c)
