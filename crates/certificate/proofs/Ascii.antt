-- Identifiers are texts.
use Rattle.std.proofs.Common.{◌≡◌, ℕ, ◌<◌, true, List, [], ◌∷◌, arith}
use Rattle.std.specs.Str.{IsAscii, IsUtf8}
use Rattle.std.proofs.lemmas.Str.{IsUtf8-from_ascii}
use Rattle.std.proofs.lemmas.Str.Ascii.{IsAscii-nil, IsAscii-cons}
use Rattle.std.proofs.lemmas.Bool.Decides.{nat_tests}
use Rattle.lines.specs.Bytes.{is_letter, is_word_byte}
use Rattle.lines.specs.Identifiers.{all_word_bytes, is_identifier}
use Rattle.lines.proofs.Fronts.{both}

low : (b : ℕ) → is_word_byte b ≡ true → b < 128
low b h = grind (arith, nat_tests)

low_letter : (b : ℕ) → is_letter b ≡ true → b < 128
low_letter b h = grind (arith, nat_tests)

ascii : (bytes : List ℕ) → all_word_bytes bytes ≡ true → IsAscii bytes
ascii [] h = IsAscii-nil
ascii (b ∷ bytes) h =
    let p = both (is_word_byte b) (all_word_bytes bytes) h in
    IsAscii-cons b bytes (low b p.0) (ascii bytes p.1)

pub utf8 : (word : List ℕ) → is_identifier word ≡ true → IsUtf8 word
utf8 [] h = IsUtf8-from_ascii [] IsAscii-nil
utf8 (b ∷ bytes) h =
    let p = both (is_letter b) (all_word_bytes bytes) h in
    IsUtf8-from_ascii (b ∷ bytes) (IsAscii-cons b bytes (low_letter b p.0) (ascii bytes p.1))
