-- The number of a refusal, and where it points.
use Rattle.std.specs.Prelude.{ℕ, Option, Some, None}
use Rattle.cert_check.specs.Numbers as checks
use Rattle.cert_check.specs.Numbers.{at_line}
use Rattle.entry_check.specs.declared.error.Pointer.{Pointer}
use Rattle.proof_search.specs.declared.error.VerifyError.{VerifyError}
use Rattle.proof_search.specs.declared.error.VerifyError.TheVariants as errors

abbrev pub error_number : VerifyError → ℕ
error_number (errors.Check e) = checks.error_number e
error_number errors.Workers = 70
error_number (errors.NotShown findings) = 60
error_number errors.TooLong = 50
error_number errors.Memory = 90

abbrev pub error_place : VerifyError → Option Pointer
error_place (errors.Check e) = checks.error_place e
error_place errors.Workers = None
error_place (errors.NotShown findings) = None
error_place errors.TooLong = at_line (Some 1)
error_place errors.Memory = None
