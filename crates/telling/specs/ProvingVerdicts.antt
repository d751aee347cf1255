-- What is told where a certificate is looked for.
use Rattle.kernel_reading.specs.Kernels.{Source}
use Rattle.std.specs.Prelude.{◌≡◌, ◌++◌, ℕ, List, Bool}
use Rattle.std.specs.String.{string_bytes}
use Rattle.telling.specs.Refusing.{IsRefusedText}
use Rattle.telling.specs.Telling.{IsAcceptedText}
use Rattle.telling.specs.declared.Verdict.{Verdict}
use Rattle.telling.specs.declared.Verdict.TheVariants as verdicts
use Rattle.telling.specs.Proving.{IsProvedText, IsUnproved}
use Rattle.telling.specs.declared.proving.Sought.{Sought}
use Rattle.telling.specs.declared.proving.Sought.TheVariants as answers

-- the search is the wide one, or it is not
abbrev pub Proves : (is_wide : Bool) → Sought → (workers : ℕ) → (kernel : Source) (conditions : List ℕ) → Type 0
Proves is_wide (answers.Found text certificate) workers kernel conditions = IsProvedText is_wide kernel conditions certificate.items text.items
Proves is_wide (answers.Refused text) workers kernel conditions = IsUnproved is_wide workers kernel conditions (string_bytes text)
Proves is_wide answers.OutOfMemory workers kernel conditions = Unit {0}

-- a text that begins with what is told
abbrev pub Begins : (tells : List ℕ → Type 0) (text : List ℕ) → Type 0
Begins tells text = (told : List ℕ) × (more : List ℕ) × tells told × (text ≡ told ++ more)

-- a refusal that begins so, or want of memory
abbrev pub GoesOn : (told : List ℕ) → Verdict → Type 0
GoesOn told (verdicts.Done text) = ⊥
GoesOn told (verdicts.Refused text) = (more : List ℕ) × (string_bytes text ≡ told ++ more)
GoesOn told verdicts.OutOfMemory = Unit {0}

-- an acceptance that begins so, or want of memory
abbrev pub GoesFurther : (told : List ℕ) → Verdict → Type 0
GoesFurther told (verdicts.Done text) = (more : List ℕ) × (text.items ≡ told ++ more)
GoesFurther told (verdicts.Refused text) = ⊥
GoesFurther told verdicts.OutOfMemory = Unit {0}

-- of a kernel and conditions some certificate is proved, and this is told of it
abbrev pub IsProvedBySome : (is_wide : Bool) → (kernel : Source) (conditions told : List ℕ) → Type 0
IsProvedBySome is_wide kernel conditions told = (certificate : List ℕ) × IsProvedText is_wide kernel conditions certificate told

-- where the answer of a search is explained: what `prove` tells, with one worker, comes first
abbrev pub Explains : (is_wide : Bool) → Verdict → (kernel : Source) (conditions : List ℕ) → Type 0
Explains is_wide (verdicts.Done text) kernel conditions = Begins (IsProvedBySome is_wide kernel conditions) text.items
Explains is_wide (verdicts.Refused text) kernel conditions = Begins (IsUnproved is_wide 1 kernel conditions) (string_bytes text)
Explains is_wide verdicts.OutOfMemory kernel conditions = Unit {0}

-- where the answer of a check is explained: what `check` tells comes first
abbrev pub ExplainsCheck : (is_wide : Bool) → Verdict → (kernel : Source) (conditions certificate : List ℕ) → Type 0
ExplainsCheck is_wide (verdicts.Done text) kernel conditions certificate = Begins (IsAcceptedText is_wide kernel conditions) text.items
ExplainsCheck is_wide (verdicts.Refused text) kernel conditions certificate = Begins (IsRefusedText is_wide kernel conditions certificate) (string_bytes text)
ExplainsCheck is_wide verdicts.OutOfMemory kernel conditions certificate = Unit {0}
