-- How far comments and words go.
use Rattle.std.proofs.Common.{◌≡◌, ℕ, ◌+◌, ◌<◌, List, [], ◌∷◌, length, drop, get_or, true, false, cond, nat_eq, Some, ap, sym, ◌∙◌, arith, IsAscii}
use Rattle.std.specs.Prelude.{codes}
use Rattle.std.specs.List.{prefix_len}
use Rattle.std.proofs.lemmas.Bool.{cond-false, cond-true}
use Rattle.std.proofs.lemmas.Bool.Decides.{nat_tests}
use Rattle.std.proofs.lemmas.List.{at_drop_more, drop_more}
use Rattle.std.proofs.lemmas.List.Sums.{prefix_len_passes}
use Rattle.std.proofs.lemmas.Str.Ascii.{IsAscii-nil, IsAscii-cons}
use Rattle.texts.specs.Tokens.{begins_with, comment_end, is_padding}
use Rattle.lines.specs.Bytes.{is_word_byte}
use Rattle.opencl_tokens.specs.Joining.{line_end}

-- a comment does not end at this byte
pub comment_more : (bytes : List ℕ) (i : ℕ) → i < length bytes → begins_with (drop i bytes) (codes "*/") ≡ false →
    comment_end i (drop i bytes) ≡ comment_end (i + 1) (drop (i + 1) bytes)
comment_more bytes i h no_end =
    let e : begins_with (get_or bytes i 0 ∷ drop (i + 1) bytes) (codes "*/")
    ≡ false = ap (λ xs. begins_with xs (codes "*/")) (sym (drop_more bytes i 0 h)) ∙ no_end in
    at_drop_more (comment_end i) bytes i 0 h ∙ cond-false _ (Some (i + 2)) (comment_end (i + 1) (drop (i + 1) bytes)) e

-- word bytes are ASCII
small : (b : ℕ) → is_word_byte b ≡ true → b < 128
small b h = grind (arith, nat_tests)

pub word_ascii : (word : List ℕ) → prefix_len is_word_byte word ≡ length word → IsAscii word
word_ascii [] h = IsAscii-nil
word_ascii (b ∷ bytes) h =
    let first : is_word_byte b ≡ true = prefix_len_passes is_word_byte (b ∷ bytes) 0 0 (omega (arith, h)) in
    let more : prefix_len is_word_byte (b ∷ bytes) ≡ 1 + prefix_len is_word_byte bytes = ap
    (λ t. cond t (1 + prefix_len is_word_byte bytes) 0) first in
    IsAscii-cons b bytes (small b first) (word_ascii bytes (omega (arith, h, more)))

-- a line's end stands further on
pub line_more : (bytes : List ℕ) (at i : ℕ) → i < length bytes → nat_eq (get_or bytes i 0) 10 ≡ false →
    begins_with (drop i bytes) (13 ∷ 10 ∷ []) ≡ false → is_padding (get_or bytes i 0) ≡ true →
    line_end (at + i) (drop i bytes) ≡ line_end (at + (i + 1)) (drop (i + 1) bytes)
line_more bytes at i h feed return padding =
    let no : begins_with (get_or bytes i 0 ∷ drop (i + 1) bytes) (13 ∷ 10 ∷ [])
    ≡ false = ap (λ xs. begins_with xs (13 ∷ 10 ∷ [])) (sym (drop_more bytes i 0 h)) ∙ return in
    let n : at + i + 1 ≡ at + (i + 1) = omega arith in
    at_drop_more (line_end (at + i)) bytes i 0 h ∙ cond-false _ _ _ feed ∙ cond-false _ _ _ no ∙ cond-true _ _ _ padding
    ∙ ap (λ k. line_end k (drop (i + 1) bytes)) n
