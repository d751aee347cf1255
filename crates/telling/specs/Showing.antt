-- What is promised of a text that shows what was made of a kernel.
use Rattle.std.specs.Prelude.{◌≡◌, ℕ, List, Bool, true, false, Ok, Err}
use Rattle.std.specs.String.{string_bytes}
use Rattle.kernel_reading.specs.Kernels.{Kernel, Source, Read, narrow, read}
use Rattle.kernel_reading.specs.Texts.{IsTextOf}
use Rattle.kernel_reading.specs.Answers.{Refuses}
use Rattle.kernel_reading.specs.declared.KernelError.{KernelError}
use Rattle.cert_check.specs.Numbers as checks
use Rattle.cert_check.specs.declared.error.CheckError.TheVariants as errors
use Rattle.telling.specs.Refusing.{IsLineOf}
use Rattle.telling.specs.Telling.{IsPrintedText}
use Rattle.telling.specs.declared.Verdict.{Verdict}
use Rattle.telling.specs.declared.Verdict.TheVariants as verdicts

-- the same bytes under the same conditions, read as a plain text for devices with 32 address bits
abbrev pub plainly : Source → Source
plainly s = record s { reading = narrow }

abbrev pub is_read : Read → Bool
is_read (Ok k) = true
is_read (Err e) = false

-- the bytes are a plain kernel, and the head of the conditions says nothing
abbrev pub is_plain : Source → Bool
is_plain s = is_read (read (plainly s))

-- of a plain kernel the canonical text is written; of another one some text, of which nothing is said
abbrev pub IsShown : (is_plain : Bool) → Source → (written : List ℕ) → Type 0
IsShown true s written = IsPrintedText s.bytes written
IsShown false s written = (k : Kernel) × IsTextOf s k

abbrev pub IsShownText : Source → (written : List ℕ) → Type 0
IsShownText s written = IsShown (is_plain s) s written

-- the bytes are refused in the way in which they are read, as a check refuses them
abbrev pub IsUnread : Source → (line : List ℕ) → Type 0
IsUnread s line = (e : KernelError) × Refuses e (read s) × IsLineOf (checks.error_number (errors.Kernel e)) (checks.error_place (errors.Kernel e)) line

-- and they are no plain kernel
abbrev pub IsUnshown : Source → (line : List ℕ) → Type 0
IsUnshown s line = (is_plain s ≡ false) × IsUnread s line

abbrev pub Shows : Verdict → Source → Type 0
Shows (verdicts.Done text) s = IsShownText s text.items
Shows (verdicts.Refused line) s = IsUnshown s (string_bytes line)
Shows verdicts.OutOfMemory s = Unit {0}

-- where it is known to be plain: nothing refuses it
abbrev pub Prints : Verdict → (kernel : List ℕ) → Type 0
Prints (verdicts.Done text) kernel = IsPrintedText kernel text.items
Prints (verdicts.Refused line) kernel = ⊥
Prints verdicts.OutOfMemory kernel = Unit {0}

-- where it is known not to be
abbrev pub Reads : Verdict → Source → Type 0
Reads (verdicts.Done text) s = (k : Kernel) × IsTextOf s k
Reads (verdicts.Refused line) s = IsUnread s (string_bytes line)
Reads verdicts.OutOfMemory s = Unit {0}
