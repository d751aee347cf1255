-- What a line that refuses tells of the texts that were asked about.
use Rattle.std.specs.Prelude.{◌≡◌, ℕ, List, false, Option, None}
use Rattle.kernel_reading.specs.Kernels.{narrow, text_for, text_under}
use Rattle.telling.specs.Refusing.{IsRefusedText, IsRefusedKernel, IsUnanswered}
use Rattle.telling.specs.Proving.{IsUnproved}
use Rattle.telling.specs.ProvingVerdicts.{Begins}
use Rattle.telling.specs.Migrating.{IsUnmigrated}
use Rattle.telling.specs.Showing.{IsUnshown}
use Rattle.program.specs.First.{first_kernel, first_conditions, first_certificate}
use Rattle.program.specs.Running.{Read, Write, Request, CheckOwn, Check, Run, Prove, Explain, ExplainCheck, Print, Show, ShowAlone, Migrate, Texts, Answered}

-- what refuses a request; where no certificate is found or migrated none is written; where a refusal is explained, it begins the text
abbrev pub Refuses : Request → Texts → Option Write → (line : List ℕ) → Type 0
Refuses CheckOwn t saved line = IsRefusedText false (text_for narrow first_kernel) first_conditions first_certificate line
Refuses (Check k c p wide r) t saved line = IsRefusedText wide (text_under r t.conditions t.kernel) t.conditions t.certificate line
Refuses (Run k c p l workers wide r) t saved line = IsUnanswered wide workers (text_under r t.conditions t.kernel) t.conditions t.certificate t.launch line
Refuses (Prove k c workers out wide r) t saved line = IsUnproved wide workers (text_under r t.conditions t.kernel) t.conditions line × (saved ≡ None)
Refuses (Explain k c wide r) t saved line = Begins (IsUnproved wide 1 (text_under r t.conditions t.kernel) t.conditions) line
Refuses (ExplainCheck k c p wide r) t saved line = Begins (IsRefusedText wide (text_under r t.conditions t.kernel) t.conditions t.certificate) line
Refuses (Print k) t saved line = IsRefusedKernel t.kernel line
Refuses (Show k c r) t saved line = IsUnshown (text_under r t.conditions t.kernel) line
Refuses (ShowAlone k r) t saved line = IsUnshown (text_for r t.kernel) line
Refuses (Migrate o n) t saved line = IsUnmigrated t.certificate line × (saved ≡ None)

abbrev pub Refusal : (given : List Read → Option Write → Type 0) (ws : List (List ℕ)) (line : List ℕ) → Type 0
Refusal given ws line = Answered given ws (λ request texts saved. Refuses request texts saved line)
