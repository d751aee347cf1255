-- What the findings of a search tell of a kernel under conditions.
use Rattle.std.specs.Prelude.{ℕ, List, Bool, IfSome}
use Rattle.std.specs.List.{All}
use Rattle.semantics.specs.Setup.{at_launch}
use Rattle.semantics.specs.Launch.{Launch, Fits}
use Rattle.semantics.specs.Conditions.{Conditions, Meets}
use Rattle.launch_text.specs.ConditionsText.{IsConditionsText}
use Rattle.kernel_reading.specs.Kernels.{Kernel, Source}
use Rattle.kernel_reading.specs.Texts.{IsTextOf}
use Rattle.kernel_reading.specs.Answers.{kernel_seen}
use Rattle.typed_kernels.specs.TypedKernel.{TypedKernel}
use Rattle.launch.specs.View.{conditions as conditions_seen}
use Rattle.launch.specs.declared.conditions.Conditions as code
use Rattle.findings.specs.Findings.{Finding}
use Rattle.diagnostics.specs.Confirming.{IsConfirmed}
use Rattle.findings.specs.View.{finding as finding_seen}
use Rattle.findings.specs.declared.finding.Finding as findings

-- a launch of the kernel that meets the conditions, and there the schedule of the finding shows it
pub record IsWitness (k : Kernel) (c : Conditions) (f : Finding) (l : Launch) : Type 0 where
  pub fits : Fits k.core l
  pub meets : Meets c l
  pub shown : IsConfirmed (at_launch k.core l) k.names f

-- what is confirmed has such a launch; of what is possible nothing is said
abbrev pub IsTrue : Kernel → Conditions → Finding → Type 0
IsTrue k c f = IfSome f.schedule (λ events. (l : Launch) × IsWitness k c f l)

-- of the kernel and the conditions that the bytes say, by the grammar and case by case; the conditions are of version 2 only where the
-- search is the wide one
abbrev pub IsTrueOf : (is_wide : Bool) → (kernel : Source) (conditions : List ℕ) → Finding → Type 0
IsTrueOf is_wide kernel conditions f =
    IfSome f.schedule (λ events. (k : Kernel) × (c : Conditions) × IsTextOf kernel k × IsConditionsText is_wide k.names.parameters conditions c × ((l : Launch) × IsWitness k c f l))

-- as code has them
abbrev pub AreTrue : TypedKernel → code.Conditions → List findings.Finding → Type 0
AreTrue t c fs = All (λ f. IsTrue (kernel_seen t) (conditions_seen c) (finding_seen f)) fs

abbrev pub AreTrueOf : (is_wide : Bool) → (kernel : Source) (conditions : List ℕ) → List findings.Finding → Type 0
AreTrueOf is_wide kernel conditions fs = All (λ f. IsTrueOf is_wide kernel conditions (finding_seen f)) fs
