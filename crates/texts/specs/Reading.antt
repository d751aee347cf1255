-- A text as a row of blanks, comments and tokens: what the tokens of a text are, in the grammar's own words. Each
-- definition speaks of some bytes of a text, and of the `rest` that follows them there.
use Rattle.std.specs.Prelude.{◌≡◌, ◌≢◌, ℕ, ◌+◌, ◌<◌, ◌≤◌, List, [], ◌∷◌, ◌++◌, length, take, drop, Bool, true, false, not, Some, Ok, codes, slice_index_or}
use Rattle.std.specs.List.{prefix_len, Contains, count_by, suffix_len}
use Rattle.texts.specs.Reserved.{Reserved, reserved_words}
use Rattle.texts.specs.Signs.{Sign, signs}
use Rattle.texts.specs.Numbers.{number_of}
use Rattle.lines.specs.Bytes.{is_decimal_digit}
use Rattle.texts.specs.Tokens.{TokenKind, Name, End, Word, Number, Mark, Token, token_at, site_of, is_blank, is_line_feed, begins_with, comment_end, joins_lines, leaves_line, goes_on}
use Rattle.lines.specs.Bytes.{is_letter, is_word_byte}

-- all bytes pass, and the first of the rest, where there is one, does not: no longer front passes
abbrev pub IsLongestRun : (test : ℕ → Bool) → (bytes rest : List ℕ) → Type 0
IsLongestRun test bytes rest = (prefix_len test bytes ≡ length bytes) × (prefix_len test rest ≡ 0)

-- at none of these bytes do the bytes from there on pass
abbrev pub IsWithout : (test : List ℕ → Bool) → (bytes rest : List ℕ) → Type 0
IsWithout test bytes rest = (k : ℕ) → k < length bytes → test (drop k (bytes ++ rest)) ≡ false

-- a blank; a comment up to a line feed or the end of the text, where compilers end it too; a comment up to the first `*/`, in which
-- no lines are joined
pub data IsGap : (bytes rest : List ℕ) → Type 0 where
  blank : (b : ℕ) (rest : List ℕ) → is_blank b ≡ true → IsGap (b ∷ []) rest
  line_comment : (line rest : List ℕ) → IsLongestRun (λ b. not (is_line_feed b)) line rest → IsWithout leaves_line (codes "//" ++ line) rest → IsGap (codes "//" ++ line) rest
  comment : (body rest : List ℕ) → comment_end 0 (body ++ codes "*/") ≡ Some (length body + 2) → IsWithout joins_lines (codes "/*" ++ body ++ codes "*/") rest → IsGap (codes "/*" ++ body ++ codes "*/") rest

-- word bytes, as many as there are, the first of which passes
abbrev pub IsWord : (first : ℕ → Bool) → (bytes rest : List ℕ) → Type 0
IsWord first bytes rest = IsLongestRun is_word_byte bytes rest × (first (slice_index_or bytes 0 0) ≡ true)

-- the bytes of a token: a word or number has all word bytes that follow, and no sign behind a number is part of it; a sign is
-- the longest that stands here, and no comment begins here
abbrev pub IsText : TokenKind → (bytes rest : List ℕ) → Type 0
IsText (Name name) bytes rest = IsWord is_letter bytes rest × ((word : Reserved) → ¬ (Contains reserved_words (bytes, word))) × (name ≡ bytes)
IsText (Word word) bytes rest = IsWord is_letter bytes rest × Contains reserved_words (bytes, word)
IsText (Number literal) bytes rest = IsWord is_decimal_digit bytes rest × (goes_on bytes rest ≡ false) × (number_of bytes ≡ Ok literal)
IsText (Mark sign) bytes rest =
    Contains signs (bytes, sign)
    × ((other : List ℕ × Sign) → Contains signs other → begins_with (bytes ++ rest) other.0 ≡ true → length other.0 ≤ length bytes)
    × (begins_with (bytes ++ rest) (codes "//") ≡ false) × (begins_with (bytes ++ rest) (codes "/*") ≡ false)
IsText End bytes rest = ⊥

-- bytes of a text from the offset `at` on, and the tokens in them: one gap or token after another, `End` at the end
pub data Reads (text : List ℕ) : (at : ℕ) → (bytes : List ℕ) → List Token → Type 0 where
  ends : (at : ℕ) → Reads text at [] (token_at text End at 0 ∷ [])
  gap : (at : ℕ) (bytes rest : List ℕ) (tokens : List Token) → IsGap bytes rest → Reads text (at + length bytes) rest tokens → Reads text at (bytes ++ rest) tokens
  token : (at : ℕ) (kind : TokenKind) (bytes rest : List ℕ) (tokens : List Token) → IsText kind bytes rest → Reads text (at + length bytes) rest tokens → Reads text at (bytes ++ rest) (token_at text kind at (length bytes) ∷ tokens)

-- spans in order from the offset `at` on, none empty but that of `End`, which is the last token and no other
abbrev pub IsInOrder : (length at : ℕ) → List Token → Type 0
IsInOrder length at [] = ⊥
IsInOrder length at (t ∷ []) = (t.kind ≡ End) × (at ≤ length) × (t.start ≡ length) × (t.stop ≡ length)
IsInOrder length at (t ∷ u ∷ ts) = (t.kind ≢ End) × (at ≤ t.start) × (t.start < t.stop) × IsInOrder length t.stop (u ∷ ts)

-- the line is 1 and the line feeds before the offset, the column 1 and the bytes after the last of them
abbrev pub IsCounted : (text : List ℕ) (at : ℕ) → Type 0
IsCounted text at =
    ((site_of text at).line ≡ 1 + count_by is_line_feed (take at text))
    × ((site_of text at).column ≡ 1 + suffix_len (λ b. not (is_line_feed b)) (take at text))
