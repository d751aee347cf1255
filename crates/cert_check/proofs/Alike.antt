-- What is told of a text holds of each text that says the same.
use Rattle.kernel_reading.specs.Kernels.{Source}
use Rattle.std.proofs.Common.{◌≡◌, ◌∙◌, ℕ, List, Bool, true, false, Ok, Err, refl, ap, subst, sym}
use Rattle.typed_kernels.specs.TypedKernel.{TypedKernel}
use Rattle.semantics.specs.Conditions.{Conditions}
use Rattle.certificate_text.specs.Certificate.{BadLine, OtherVersion}
use Rattle.texts.specs.Surface.{Parameter}
use Rattle.launch_text.specs.ConditionsReading.{Lined, conditions_of}
use Rattle.kernel_names.specs.View.{names_seen}
use Rattle.launch_text.specs.Answers as launches
use Rattle.certificate_text.specs.Reading.{Read, certificate_of}
use Rattle.certificate_text.specs.NumberedReading.{certificate_of_two, certificate_of_four}
use Rattle.certificate_text.specs.Migrated.{written, migrated}
use Rattle.certificate_text.specs.Versions.{unless_other, certificate_in}
use Rattle.certificate.specs.Certificates.{Says}
use Rattle.cert_check.specs.Alike.{AreNotOfTwoOrThree, IsOfOneOrTwo}
use Rattle.cert_check.specs.Breadth.{text_says}
use Rattle.cert_check.specs.Refusing.{AreRead, IsPassedBy, RefusesBy}
use Rattle.cert_check.specs.declared.error.CheckError.{CheckError}
use Rattle.cert_check.specs.declared.error.CheckError.TheVariants as errors

-- the second text says to one check what the first one says to another
module _ (wide as_wide : Bool) (one two : List ℕ) (same : text_says wide one ≡ text_says as_wide two) where
  pub passed_alike : (typed : TypedKernel) (c : Conditions) → IsPassedBy wide typed c one → IsPassedBy as_wide typed c two
  passed_alike typed c (met, cert, n, read, said, passes) = (met, cert, n, sym same ∙ read, said, passes)

  -- and so do the conditions
  module _ (kernel : Source) (conditions : List ℕ) (alike : (ps : List Parameter) → conditions_of wide ps conditions ≡ conditions_of as_wide ps conditions) where
    read_alike : (typed : TypedKernel) (found : Lined) → AreRead wide typed found kernel conditions → AreRead as_wide typed found kernel conditions
    read_alike typed found (is, said) = (is, sym (alike (names_seen typed.0).parameters) ∙ said)

    pub refused_alike : (e : CheckError) → RefusesBy wide e kernel conditions one → RefusesBy as_wide e kernel conditions two
    refused_alike (errors.Kernel e) told = told
    refused_alike (errors.Conditions e) (typed, is, told) = (typed, is, subst (launches.Refuses e) (alike (names_seen typed.0).parameters) told)
    refused_alike (errors.Missed site) (typed, found, loop, are_read, missed, at) = (typed, found, loop, read_alike typed found are_read, missed, at)
    refused_alike (errors.Certificate e) (typed, found, are_read, met, told) = (typed, found, read_alike typed found are_read, met, subst (Says (Err e)) same told)
    refused_alike (errors.ManyPaths site) (typed, found, cert, (are_read, met, read), many) = (typed, found, cert, (read_alike typed found are_read, met, sym same ∙ read), many)
    refused_alike (errors.Show e) (typed, found, cert, (are_read, met, read), shows) = (typed, found, cert, (read_alike typed found are_read, met, sym same ∙ read), shows)

-- conditions of another version than 2 and 3 are read alike, by the law of their texts
pub conditions_alike : ((ps : List Parameter) (text : List ℕ) → AreNotOfTwoOrThree text → conditions_of true ps text ≡ conditions_of false ps text) → (is_wide : Bool) (conditions : List ℕ) → AreNotOfTwoOrThree conditions → (ps : List Parameter) → conditions_of is_wide ps conditions ≡ conditions_of false ps conditions
conditions_alike law false conditions h ps = refl
conditions_alike law true conditions h ps = law ps conditions h

-- what has its version is not read in another one
of_its_version : (one four : Read) → (one ≡ Err OtherVersion → ⊥) → one ≡ unless_other one four
of_its_version (Ok c) four h = refl
of_its_version (Err (BadLine n)) four h = refl
of_its_version (Err OtherVersion) four h = absurd (h refl)

pub narrow_alike : (is_wide : Bool) (text : List ℕ) → IsOfOneOrTwo text → text_says is_wide text ≡ certificate_in text
narrow_alike false text h = refl
narrow_alike true text h = sym (of_its_version (certificate_in text) (certificate_of_four text) h)

-- a text that is migrated says a certificate in version 1, and so it is of no other version
not_other : (text two : List ℕ) (r : Read) → certificate_of text ≡ r → migrated text ≡ Ok two → IsOfOneOrTwo text
not_other text two (Ok c) e w = λ h. let q : Ok c ≡ Err OtherVersion = sym (ap (λ r. unless_other r (certificate_of_two text)) e) ∙ h in cc
not_other text two (Err f) e w = λ h. let q : written (Err f) ≡ Ok two = ap written (sym e) ∙ w in cc

-- and to each check it says what it says in version 2
pub migrated_alike : (is_wide : Bool) (text two : List ℕ) → migrated text ≡ Ok two → certificate_in two ≡ certificate_in text → text_says is_wide two ≡ text_says is_wide text
migrated_alike is_wide text two w same =
    let own = not_other text two (certificate_of text) refl w in
    narrow_alike is_wide two (λ h. own (sym same ∙ h)) ∙ (same ∙ sym (narrow_alike is_wide text own))
