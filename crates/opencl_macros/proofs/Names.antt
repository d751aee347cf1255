-- Names are ASCII.
use Rattle.std.proofs.Common.{◌≡◌, ℕ, ◌<◌, List, [], ◌∷◌, true, arith}
use Rattle.std.specs.Str.{IsAscii}
use Rattle.std.proofs.lemmas.Bool.{and_parts}
use Rattle.std.proofs.lemmas.Bool.Decides.{nat_tests}
use Rattle.std.proofs.lemmas.Str.Ascii.{IsAscii-nil, IsAscii-cons}
use Rattle.lines.specs.Bytes.{is_word_byte}
use Rattle.lines.specs.Identifiers.{all_word_bytes}

small : (b : ℕ) → is_word_byte b ≡ true → b < 128
small b h = grind (arith, nat_tests)

pub word_ascii : (word : List ℕ) → all_word_bytes word ≡ true → IsAscii word
word_ascii [] h = IsAscii-nil
word_ascii (b ∷ bytes) h =
    let p = and_parts (is_word_byte b) (all_word_bytes bytes) h in
    IsAscii-cons b bytes (small b p.0) (word_ascii bytes p.1)
