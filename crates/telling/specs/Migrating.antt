-- What the program promises of a certificate of version 1 that it writes in version 2.
use Rattle.std.specs.Prelude.{◌≡◌, ◌<◌, ◌⊎◌, ℕ, List, length, codes, Ok, Err}
use Rattle.std.specs.String.{string_bytes}
use Rattle.certificate_text.specs.Certificate.{BadLine}
use Rattle.certificate_text.specs.Reading.{certificate_limit}
use Rattle.certificate_text.specs.Migrated.{migrated}
use Rattle.certificate_text.specs.Versions.{certificate_in}
use Rattle.certificate.specs.Answers.{fault}
use Rattle.certificate.specs.declared.error.CertError.{CertError}
use Rattle.certificate.specs.declared.error.CertError.TheVariants as certificates
use Rattle.cert_check.specs.Numbers as checks
use Rattle.cert_check.specs.declared.error.CheckError.TheVariants as errors
use Rattle.telling.specs.Refusing.{IsLineOf}
use Rattle.telling.specs.declared.proving.Sought.{Sought}
use Rattle.telling.specs.declared.proving.Sought.TheVariants as answers

abbrev pub migrated_line : List ℕ
migrated_line = codes "migrated\n"

-- the old bytes say a certificate in version 1, the new ones are its text of version 2, and the check reads both as the same certificate
pub record IsMigrated (old new written : List ℕ) : Type 0 where
  pub text : migrated old ≡ Ok new
  pub same : certificate_in new ≡ certificate_in old
  pub line : written ≡ migrated_line

-- the first fault of the old text in version 1, or that its text of version 2 is too long
abbrev pub IsFaulty : CertError → (old : List ℕ) → Type 0
IsFaulty (certificates.Refused f) old = (migrated old ≡ Err (fault f)) ⊎ ((new : List ℕ) × (migrated old ≡ Ok new) × (certificate_limit < length new) × (fault f ≡ BadLine 1))
IsFaulty certificates.Memory old = Unit {0}

-- as `check` prints it
abbrev pub IsUnmigrated : (old line : List ℕ) → Type 0
IsUnmigrated old line = (e : CertError) × IsFaulty e old × IsLineOf (checks.error_number (errors.Certificate e)) (checks.error_place (errors.Certificate e)) line

abbrev pub Migrates : Sought → (old : List ℕ) → Type 0
Migrates (answers.Found text new) old = IsMigrated old new.items text.items
Migrates (answers.Refused line) old = IsUnmigrated old (string_bytes line)
Migrates answers.OutOfMemory old = Unit {0}
