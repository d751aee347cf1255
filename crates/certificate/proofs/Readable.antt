-- What a text of any version says has a text.
use Rattle.std.proofs.Common.{◌≡◌, ℕ, true, not, List, Ok, Err, inl, inr, ◌⊎◌}
use Rattle.certificate_text.specs.Certificate.{Certificate, BadLine, OtherVersion}
use Rattle.certificate_text.specs.Reading.{Read, certificate_of}
use Rattle.certificate_text.specs.NumberedReading.{certificate_of_two, certificate_of_four}
use Rattle.certificate_text.specs.Rules.{is_any_certificate}
use Rattle.certificate_text.specs.Versions.{unless_other, certificate_in, certificate_any}
use Rattle.lines.proofs.Fronts.{both}
use Rattle.certificate_text.proofs.Read.{certificate_back}
use Rattle.certificate_text.proofs.NumberedRead.{certificate_of_two_back, certificate_of_four_back}

pub one_good : (text : List ℕ) (c : Certificate) → certificate_of text ≡ Ok c → is_any_certificate c ≡ true
one_good text c e = (both (not c.is_wide) (is_any_certificate c) (certificate_back text c e).1).1

pub two_good : (text : List ℕ) (c : Certificate) → certificate_of_two text ≡ Ok c → is_any_certificate c ≡ true
two_good text c e = (both (not c.is_wide) (is_any_certificate c) (certificate_of_two_back text c e).1).1

four_good : (text : List ℕ) (c : Certificate) → certificate_of_four text ≡ Ok c → is_any_certificate c ≡ true
four_good text c e = (both c.is_wide (is_any_certificate c) (certificate_of_four_back text c e).1).1

either : (one two : Read) (c : Certificate) → unless_other one two ≡ Ok c → (one ≡ Ok c) ⊎ (two ≡ Ok c)
either (Ok d) two c e = inl e
either (Err (BadLine n)) two c e = absurd cc
either (Err OtherVersion) two c e = inr e

pub in_good : (text : List ℕ) (c : Certificate) → certificate_in text ≡ Ok c → is_any_certificate c ≡ true
in_good text c e =
    elim (either (certificate_of text) (certificate_of_two text) c e) [
      | inl p ↦ one_good text c p
      | inr p ↦ two_good text c p
    ]

pub any_good : (text : List ℕ) (c : Certificate) → certificate_any text ≡ Ok c → is_any_certificate c ≡ true
any_good text c e =
    elim (either (certificate_in text) (certificate_of_four text) c e) [
      | inl p ↦ in_good text c p
      | inr p ↦ four_good text c p
    ]
