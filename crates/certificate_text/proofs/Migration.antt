-- What is migrated says the same certificate.
use Rattle.std.proofs.Common.{◌≡◌, ℕ, ◌≤◌, List, length, Ok, Err, refl, ap, sym, subst, ◌∙◌}
use Rattle.certificate_text.specs.Reading.{Read, certificate_limit, certificate_of}
use Rattle.certificate_text.specs.NumberedText.{text_of_two}
use Rattle.certificate_text.specs.NumberedReading.{certificate_of_two}
use Rattle.certificate_text.specs.Migrated.{written, migrated}
use Rattle.certificate_text.proofs.Read.{certificate_back}
use Rattle.certificate_text.proofs.NumberedWritten.{certificate_of_two_forth}

read_again : (text two : List ℕ) (r : Read) → certificate_of text ≡ r → written r ≡ Ok two → length two ≤ certificate_limit → certificate_of_two two ≡ r
read_again text two (Ok c) e w l =
    let q : text_of_two c ≡ two = cc in
    ap certificate_of_two (sym q) ∙ certificate_of_two_forth c (certificate_back text c e).1 (subst (λ (t : List ℕ). length t ≤ certificate_limit) (sym q) l)
read_again text two (Err f) e w l = absurd cc

pub migrated_back : (text two : List ℕ) → migrated text ≡ Ok two → length two ≤ certificate_limit → certificate_of_two two ≡ certificate_of text
migrated_back text two w l = read_again text two (certificate_of text) refl w l
