-- The number of a refusal, and where it points.
use Rattle.std.specs.Prelude.{ℕ, Option, Some, None}
use Rattle.semantics.specs.Core.{Site}
use Rattle.core_code.specs.View.{site as site_seen}
use Rattle.kernel_reading.specs.Answers as reading
use Rattle.kernel_reading.specs.declared.KernelError.TheVariants as kernel_errors
use Rattle.launch_text.specs.Answers as conditions
use Rattle.certificate.specs.Answers as certificates
use Rattle.entry_check.specs.declared.error.Pointer.{Pointer}
use Rattle.entry_check.specs.declared.error.Pointer.TheVariants.{At, Number}
use Rattle.entry_check.specs.Numbers.{show_number, show_place}
use Rattle.cert_check.specs.declared.error.CheckError.{CheckError}
use Rattle.cert_check.specs.declared.error.CheckError.TheVariants as errors

-- 90 is want of memory, everywhere
abbrev pub error_number : CheckError → ℕ
error_number (errors.Kernel e) = reading.error_number e
error_number (errors.Conditions e) = conditions.error_number e
error_number (errors.Missed site) = 55
error_number (errors.Certificate e) = certificates.error_number e
error_number (errors.ManyPaths site) = 53
error_number (errors.Show e) = show_number e

-- a line and a column
abbrev pub at_place : Option (ℕ × ℕ) → Option Pointer
at_place (Some place) = Some (At place.0 place.1)
at_place None = None

abbrev pub at_site : Site → Pointer
at_site site = At site.line site.column

-- a line
abbrev pub at_line : Option ℕ → Option Pointer
at_line (Some line) = Some (Number line)
at_line None = None

abbrev pub error_place : CheckError → Option Pointer
error_place (errors.Kernel (kernel_errors.Head e)) = at_line (conditions.error_place e)
error_place (errors.Kernel e) = at_place (reading.error_place e)
error_place (errors.Conditions e) = at_line (conditions.error_place e)
error_place (errors.Missed site) = Some (at_site (site_seen site))
error_place (errors.Certificate e) = at_line (certificates.error_place e)
error_place (errors.ManyPaths site) = Some (at_site (site_seen site))
error_place (errors.Show e) = show_place e
