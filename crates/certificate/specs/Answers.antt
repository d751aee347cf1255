-- What the code's errors stand for.
use Rattle.std.specs.Prelude.{ℕ, Option, None}
use Rattle.certificate_text.specs.Certificate as certificate
use Rattle.certificate.specs.declared.error.CertFault.{CertFault}
use Rattle.certificate.specs.declared.error.CertFault.TheVariants as faults
use Rattle.certificate.specs.declared.error.CertError.{CertError}
use Rattle.certificate.specs.declared.error.CertError.TheVariants as texts

abbrev pub fault : CertFault → certificate.CertificateFault
fault (faults.BadLine line) = certificate.BadLine line
fault faults.OtherVersion = certificate.OtherVersion

-- the number that an error is printed under, and its line, where it has one
abbrev pub error_number : CertError → ℕ
error_number (texts.Refused f) = certificate.certificate_fault_number (fault f)
error_number texts.Memory = 90

abbrev pub error_place : CertError → Option ℕ
error_place (texts.Refused f) = certificate.certificate_fault_line (fault f)
error_place texts.Memory = None
