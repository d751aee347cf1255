-- What the text of a certificate says to a check.
use Rattle.std.specs.Prelude.{ℕ, List, Bool, true, false}
use Rattle.certificate_text.specs.Reading.{Read}
use Rattle.certificate_text.specs.Versions.{certificate_in, certificate_any}

-- a text of version 1 or 2, and to a wide check one of version 4, too
abbrev pub text_says : (is_wide : Bool) → (List ℕ → Read)
text_says false = certificate_in
text_says true = certificate_any
