-- Names are texts.
use Rattle.std.proofs.Common.{◌≡◌, ℕ, ◌<◌, true, List, [], ◌∷◌, Ok, arith}
use Rattle.std.specs.Str.{IsAscii, IsUtf8}
use Rattle.std.proofs.lemmas.Str.{IsUtf8-from_ascii}
use Rattle.std.proofs.lemmas.Str.Ascii.{IsAscii-nil, IsAscii-cons}
use Rattle.std.proofs.lemmas.Bool.{and_parts}
use Rattle.std.proofs.lemmas.Bool.Decides.{nat_tests}
use Rattle.lines.specs.Bytes.{is_letter, is_word_byte}
use Rattle.lines.specs.Identifiers.{all_word_bytes, is_identifier}
use Rattle.launch_text.specs.LaunchFaults.{Cursor}
use Rattle.launch_text.specs.LaunchWords.{name_at}
use Rattle.launch_text.proofs.HeadTaken.{identifier_took}

low : (b : ℕ) → is_word_byte b ≡ true → b < 128
low b h = grind (arith, nat_tests)

low_letter : (b : ℕ) → is_letter b ≡ true → b < 128
low_letter b h = grind (arith, nat_tests)

ascii : (bytes : List ℕ) → all_word_bytes bytes ≡ true → IsAscii bytes
ascii [] h = IsAscii-nil
ascii (b ∷ bytes) h =
    let p = and_parts (is_word_byte b) (all_word_bytes bytes) h in
    IsAscii-cons b bytes (low b p.0) (ascii bytes p.1)

identifier_utf8 : (word : List ℕ) → is_identifier word ≡ true → IsUtf8 word
identifier_utf8 [] h = IsUtf8-from_ascii [] IsAscii-nil
identifier_utf8 (b ∷ bytes) h =
    let p = and_parts (is_letter b) (all_word_bytes bytes) h in
    IsUtf8-from_ascii (b ∷ bytes) (IsAscii-cons b bytes (low_letter b p.0) (ascii bytes p.1))

pub name_utf8 : (c : Cursor) (t : List ℕ × Cursor) → name_at c ≡ Ok t → IsUtf8 t.0
name_utf8 c t h = identifier_utf8 t.0 (identifier_took c t h)
