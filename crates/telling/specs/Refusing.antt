-- What stands behind a line that refuses: its number and its place are those of an error that is true of the texts.
use Rattle.std.specs.Prelude.{◌≡◌, ◌⊎◌, ℕ, List, Bool, false, Ok, Err, Option}
use Rattle.semantics.specs.Conditions as meaning
use Rattle.launch_text.specs.LaunchReading.{launch_of}
use Rattle.types.specs.Scope.{Bits32}
use Rattle.reading.specs.Kernels.{read, text_for}
use Rattle.reading.specs.Answers as kernels
use Rattle.kernel_reading.specs.Kernels.{Kernel, Source}
use Rattle.reading.specs.declared.KernelError.{KernelError}
use Rattle.launch.specs.View.{conditions as conditions_seen, launch as launch_seen}
use Rattle.launch.specs.declared.conditions.Conditions.{Conditions}
use Rattle.launch.specs.declared.launches.Launch.{Launch}
use Rattle.launch_text.specs.View as reading
use Rattle.launch_text.specs.Answers as launches
use Rattle.launch_text.specs.declared.error.LaunchTextError.{LaunchTextError}
use Rattle.cert_check.specs.Numbers as checks
use Rattle.cert_check.specs.Numbers.{at_line}
use Rattle.cert_check.specs.Refusing.{RefusesBy}
use Rattle.entry_check.specs.declared.error.Pointer as code
use Rattle.cert_check.specs.declared.error.CheckError.{CheckError}
use Rattle.executor.specs.Numbers as runs
use Rattle.executor.specs.Results.{Answers}
use Rattle.executor.specs.declared.error.RunError.{RunError}
use Rattle.executor.specs.declared.error.RunError.TheVariants.{Unreckoned}
use Rattle.semantics.specs.Machines.{is_reckoned}
use Rattle.telling.specs.Refusals.{refusal_line, place_seen}
use Rattle.telling.specs.Telling.{AreSafeTexts}

-- the line has this number and this place
abbrev pub IsLineOf : (number : ℕ) → Option code.Pointer → (line : List ℕ) → Type 0
IsLineOf number place line = line ≡ refusal_line number (place_seen place)

-- the bytes are refused, read for devices with 32 address bits
abbrev pub IsRefusedKernel : (kernel line : List ℕ) → Type 0
IsRefusedKernel kernel line = (e : KernelError) × kernels.Refuses e (read (text_for Bits32 kernel)) × IsLineOf (kernels.error_number e) (checks.at_place (kernels.error_place e)) line

-- the check, which is the wide one or is not, refuses the texts
abbrev pub IsRefusedText : (is_wide : Bool) → (kernel : Source) (conditions certificate line : List ℕ) → Type 0
IsRefusedText is_wide kernel conditions certificate line = (e : CheckError) × RefusesBy is_wide e kernel conditions certificate × IsLineOf (checks.error_number e) (checks.error_place e) line

-- the kernel is accepted, and is not run: an operation that is not reckoned stands in it
abbrev pub IsUnreckonedText : (is_wide : Bool) → (kernel : Source) (conditions line : List ℕ) → Type 0
IsUnreckonedText is_wide kernel conditions line =
    (k : Kernel) × (c : meaning.Conditions) × AreSafeTexts is_wide kernel conditions k c × (is_reckoned k.core ≡ false) × IsLineOf (runs.error_number Unreckoned) (at_line (runs.error_line Unreckoned)) line

-- the kernel is accepted, and the launch's text is refused
abbrev pub IsUnreadText : (is_wide : Bool) → (kernel : Source) (conditions launch line : List ℕ) → Type 0
IsUnreadText is_wide kernel conditions launch line =
    (e : LaunchTextError) × (k : Kernel) × (c : meaning.Conditions) × AreSafeTexts is_wide kernel conditions k c × launches.Refuses e (launch_of k.names.parameters launch)
    × IsLineOf (launches.error_number e) (at_line (launches.error_place e)) line

-- the launch is read, and is not run with so many workers: the first condition that it does not meet, or their number
abbrev pub IsUnrunText : (is_wide : Bool) → (workers : ℕ) → (kernel : Source) (conditions launch line : List ℕ) → Type 0
IsUnrunText is_wide workers kernel conditions launch line =
    (e : RunError) × (k : Kernel) × (c : Conditions) × (l : Launch) × AreSafeTexts is_wide kernel conditions k (conditions_seen c) × (launch_of k.names.parameters launch ≡ Ok (reading.launch l))
    × Answers k.core c (launch_seen l) workers (Err e) × IsLineOf (runs.error_number e) (at_line (runs.error_line e)) line

-- one of these
abbrev pub IsUnanswered : (is_wide : Bool) → (workers : ℕ) → (kernel : Source) (conditions certificate launch line : List ℕ) → Type 0
IsUnanswered is_wide workers kernel conditions certificate launch line = IsRefusedText is_wide kernel conditions certificate line ⊎ (IsUnreckonedText is_wide kernel conditions line ⊎ (IsUnreadText is_wide kernel conditions launch line ⊎ IsUnrunText is_wide workers kernel conditions launch line))
