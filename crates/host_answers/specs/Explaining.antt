-- What is put into a host's room of what `explain` tells.
use Rattle.std.specs.Prelude.{ℕ, List, true, codes, string_bytes}
use Rattle.kernel_reading.specs.Kernels.{Source}
use Rattle.telling.specs.ProvingVerdicts.{ExplainsCheck}
use Rattle.telling.specs.declared.Verdict.{Verdict}
use Rattle.telling.specs.declared.Verdict.TheVariants as verdicts
use Rattle.host_answers.specs.Putting.{IsPut}

abbrev pub text_of : Verdict → List ℕ
text_of (verdicts.Done text) = text.items
text_of (verdicts.Refused text) = string_bytes text
text_of verdicts.OutOfMemory = codes "out of memory\n"

-- a text that explains the refusal, or the acceptance, of these texts
abbrev pub IsExplained : Source → (conditions certificate old new : List ℕ) → (whole : ℕ) → Type 0
IsExplained kernel conditions certificate old new whole = (v : Verdict) × ExplainsCheck true v kernel conditions certificate × IsPut (text_of v) old new whole
