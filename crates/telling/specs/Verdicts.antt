-- What a verdict of the code says.
use Rattle.kernel_reading.specs.Kernels.{Source}
use Rattle.std.specs.Prelude.{ℕ, List, Bool, Option}
use Rattle.std.specs.String.{string_bytes}
use Rattle.entry_check.specs.declared.error.Pointer as code
use Rattle.telling.specs.Refusing.{IsLineOf, IsRefusedText, IsRefusedKernel, IsUnanswered}
use Rattle.telling.specs.Telling.{IsAcceptedText, IsResultText, IsPrintedText}
use Rattle.telling.specs.declared.Verdict.{Verdict}
use Rattle.telling.specs.declared.Verdict.TheVariants as verdicts

-- a refusal by this number and place, or want of memory
abbrev pub IsRefusal : (number : ℕ) → Option code.Pointer → Verdict → Type 0
IsRefusal number place (verdicts.Done text) = ⊥
IsRefusal number place (verdicts.Refused line) = IsLineOf number place (string_bytes line)
IsRefusal number place verdicts.OutOfMemory = Unit {0}

-- the check is the wide one, or it is not
abbrev pub Checks : (is_wide : Bool) → Verdict → (kernel : Source) (conditions certificate : List ℕ) → Type 0
Checks is_wide (verdicts.Done text) kernel conditions certificate = IsAcceptedText is_wide kernel conditions text.items
Checks is_wide (verdicts.Refused line) kernel conditions certificate = IsRefusedText is_wide kernel conditions certificate (string_bytes line)
Checks is_wide verdicts.OutOfMemory kernel conditions certificate = Unit {0}

abbrev pub Runs : (is_wide : Bool) → Verdict → (workers : ℕ) → (kernel : Source) (conditions certificate launch : List ℕ) → Type 0
Runs is_wide (verdicts.Done text) workers kernel conditions certificate launch = IsResultText is_wide kernel conditions launch text.items
Runs is_wide (verdicts.Refused line) workers kernel conditions certificate launch = IsUnanswered is_wide workers kernel conditions certificate launch (string_bytes line)
Runs is_wide verdicts.OutOfMemory workers kernel conditions certificate launch = Unit {0}

abbrev pub Prints : Verdict → (kernel : List ℕ) → Type 0
Prints (verdicts.Done text) kernel = IsPrintedText kernel text.items
Prints (verdicts.Refused line) kernel = IsRefusedKernel kernel (string_bytes line)
Prints verdicts.OutOfMemory kernel = Unit {0}
