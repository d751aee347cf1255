-- Identifiers (C99 6.4.2.1), by their bytes.
use Rattle.std.specs.Prelude.{ℕ, List, [], ◌∷◌, Bool, true, false, ◌&&◌}
use Rattle.lines.specs.Bytes.{is_letter, is_word_byte}

abbrev pub all_word_bytes : List ℕ → Bool
all_word_bytes [] = true
all_word_bytes (b ∷ bytes) = is_word_byte b && all_word_bytes bytes

-- a letter or `_`, then letters, digits and `_`
abbrev pub is_identifier : List ℕ → Bool
is_identifier [] = false
is_identifier (b ∷ bytes) = is_letter b && all_word_bytes bytes
