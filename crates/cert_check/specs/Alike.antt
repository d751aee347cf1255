-- Texts of version 1, and the same in version 2: what is told of one holds of the other.
use Rattle.kernel_reading.specs.Kernels.{Source}
use Rattle.std.specs.Prelude.{◌≡◌, ◌≤◌, ℕ, List, length, Bool, false, nat_eq, Result, Ok, Err, codes}
use Rattle.std.specs.List.{starts_with}
use Rattle.certificate_text.specs.Certificate.{OtherVersion}
use Rattle.certificate_text.specs.Reading.{certificate_limit}
use Rattle.certificate_text.specs.Versions.{certificate_in}
use Rattle.certificate_text.specs.Migrated.{migrated}
use Rattle.launch.specs.View.{conditions as conditions_seen}
use Rattle.cert_check.specs.Refusing.{IsPassedBy, RefusesBy}
use Rattle.cert_check.specs.View.{typed_of, kept}
use Rattle.cert_check.specs.declared.accepted.Accepted.{Accepted}
use Rattle.cert_check.specs.declared.error.CheckError.{CheckError}

-- the second is the first one, migrated, and within the limit
abbrev pub AreAlike : (one two : List ℕ) → Type 0
AreAlike one two = (migrated one ≡ Ok two) × (length two ≤ certificate_limit)

-- the answer holds of these three texts: the certificate passes, or the refusal is true; the check is the wide one, or it is not
abbrev pub HoldsOfBy : (is_wide : Bool) → Result Accepted CheckError → (kernel : Source) (conditions certificate : List ℕ) → Type 0
HoldsOfBy is_wide (Ok a) kernel conditions certificate = IsPassedBy is_wide (typed_of a) (conditions_seen (kept a)) certificate
HoldsOfBy is_wide (Err e) kernel conditions certificate = RefusesBy is_wide e kernel conditions certificate

-- of the check of conditions of version 1, and of certificates of versions 1 and 2
abbrev pub HoldsOf : Result Accepted CheckError → (kernel : Source) (conditions certificate : List ℕ) → Type 0
HoldsOf answer kernel conditions certificate = HoldsOfBy false answer kernel conditions certificate

-- a text of version 1 or 2, or none that says its version
abbrev pub IsOfOneOrTwo : List ℕ → Type 0
IsOfOneOrTwo text = certificate_in text ≡ Err OtherVersion → ⊥

-- conditions of another version than 2 and 3, or of none
abbrev pub AreNotOfTwoOrThree : (conditions : List ℕ) → Type 0
AreNotOfTwoOrThree text = (starts_with nat_eq text (codes "conditions 2") ≡ false) × (starts_with nat_eq text (codes "conditions 3") ≡ false)
