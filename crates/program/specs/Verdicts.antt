-- What a verdict tells, and what is written of it.
use Rattle.std.specs.Prelude.{◌≡◌, ◌⊎◌, ℕ, List, Bool, false, Option, None, take}
use Rattle.std.specs.String.{string_bytes}
use Rattle.std.specs.Io.KnownBytes.{Appends, Keeps}
use Rattle.kernel_reading.specs.Kernels.{Source, narrow, text_for, text_under}
use Rattle.telling.specs.Verdicts.{Checks, Runs, Prints}
use Rattle.telling.specs.Proving.{IsProvedText, IsUnproved}
use Rattle.telling.specs.declared.Verdict.{Verdict}
use Rattle.telling.specs.declared.Verdict.TheVariants as verdicts
use Rattle.telling.specs.ProvingVerdicts.{Begins, ExplainsCheck}
use Rattle.telling.specs.Migrating.{IsMigrated, IsUnmigrated}
use Rattle.telling.specs.Showing.{Shows}
use Rattle.program.specs.First.{first_kernel, first_conditions, first_certificate}
use Rattle.program.specs.Running.{Read, Write, Request, CheckOwn, Check, Run, Prove, Explain, ExplainCheck, Print, Show, ShowAlone, Migrate, Texts, Answered, Saves, saving, IsFound, IsSought, IsMoved}

-- of a search: what was found is in the file that the words name, if they name one; a refusal writes none
abbrev pub Finds : (out : Option (List ℕ)) → Verdict → (is_wide : Bool) → (workers : ℕ) → (kernel : Source) (conditions : List ℕ) → Option Write → Type 0
Finds out (verdicts.Done text) is_wide workers kernel conditions saved = IsFound IsProvedText is_wide out kernel conditions text.items saved
Finds out (verdicts.Refused line) is_wide workers kernel conditions saved = IsUnproved is_wide workers kernel conditions (string_bytes line) × (saved ≡ None)
Finds out verdicts.OutOfMemory is_wide workers kernel conditions saved = Unit {0}

-- of a search whose answer is explained
abbrev pub Explained : (is_wide : Bool) → Verdict → (kernel : Source) (conditions : List ℕ) → Type 0
Explained is_wide (verdicts.Done text) kernel conditions = Begins (IsSought IsProvedText is_wide kernel conditions) text.items
Explained is_wide (verdicts.Refused text) kernel conditions = Begins (IsUnproved is_wide 1 kernel conditions) (string_bytes text)
Explained is_wide verdicts.OutOfMemory kernel conditions = Unit {0}

-- of a search, where what is found is put into a file of this name
abbrev pub Kept : {F : Type 0} → (contents : F → List ℕ → Option (List ℕ)) → (before after : F) → (out : Option (List ℕ)) → (is_wide : Bool) → (workers : ℕ) → (kernel : Source) (conditions : List ℕ) → Verdict → Type 0
Kept contents before after out is_wide workers kernel conditions (verdicts.Done text) = (certificate : List ℕ) × IsProvedText is_wide kernel conditions certificate text.items × Saves contents before after (saving out certificate)
Kept contents before after out is_wide workers kernel conditions (verdicts.Refused line) = IsUnproved is_wide workers kernel conditions (string_bytes line) × (after ≡ before)
Kept contents before after out is_wide workers kernel conditions verdicts.OutOfMemory = after ≡ before

-- of a certificate of version 1: that of version 2 is in the file of this name; a refusal writes none
abbrev pub Moves : (name : List ℕ) → Verdict → (old : List ℕ) → Option Write → Type 0
Moves name (verdicts.Done text) old saved = IsMoved name old text.items saved
Moves name (verdicts.Refused line) old saved = IsUnmigrated old (string_bytes line) × (saved ≡ None)
Moves name verdicts.OutOfMemory old saved = Unit {0}

-- where that of version 2 is put into a file of this name
abbrev pub Moved : {F : Type 0} → (contents : F → List ℕ → Option (List ℕ)) → (before after : F) → (out : Option (List ℕ)) → (old : List ℕ) → Verdict → Type 0
Moved contents before after out old (verdicts.Done text) = (new : List ℕ) × IsMigrated old new text.items × Saves contents before after (saving out new)
Moved contents before after out old (verdicts.Refused line) = IsUnmigrated old (string_bytes line) × (after ≡ before)
Moved contents before after out old verdicts.OutOfMemory = after ≡ before

-- of a request and the texts that it is about
abbrev pub IsAnsweredBy : Verdict → Request → Texts → Option Write → Type 0
IsAnsweredBy v CheckOwn t saved = Checks false v (text_for narrow first_kernel) first_conditions first_certificate
IsAnsweredBy v (Check k c p wide r) t saved = Checks wide v (text_under r t.conditions t.kernel) t.conditions t.certificate
IsAnsweredBy v (Run k c p l workers wide r) t saved = Runs wide v workers (text_under r t.conditions t.kernel) t.conditions t.certificate t.launch
IsAnsweredBy v (Prove k c workers out wide r) t saved = Finds out v wide workers (text_under r t.conditions t.kernel) t.conditions saved
IsAnsweredBy v (Explain k c wide r) t saved = Explained wide v (text_under r t.conditions t.kernel) t.conditions
IsAnsweredBy v (ExplainCheck k c p wide r) t saved = ExplainsCheck wide v (text_under r t.conditions t.kernel) t.conditions t.certificate
IsAnsweredBy v (Print k) t saved = Prints v t.kernel
IsAnsweredBy v (Show k c r) t saved = Shows v (text_under r t.conditions t.kernel)
IsAnsweredBy v (ShowAlone k r) t saved = Shows v (text_for r t.kernel)
IsAnsweredBy v (Migrate o n) t saved = Moves n v t.certificate saved

abbrev pub Tells : (given : List Read → Option Write → Type 0) (ws : List (List ℕ)) → Verdict → Type 0
Tells given ws v = Answered given ws (λ request texts saved. IsAnsweredBy v request texts saved)

-- the text is written, or a front of it, which is status 3
abbrev pub IsWritten : (text : List ℕ) (old new : Option (List ℕ)) (done status : ℕ) → Type 0
IsWritten text old new done status = ((status ≡ done) × Appends old new text) ⊎ ((status ≡ 3) × ((n : ℕ) × Appends old new (take n text)))

abbrev pub IsTold : Verdict → (old new : Option (List ℕ)) (status : ℕ) → Type 0
IsTold (verdicts.Done text) old new status = IsWritten text.items old new 0 status
IsTold (verdicts.Refused line) old new status = IsWritten (string_bytes line) old new 1 status
IsTold verdicts.OutOfMemory old new status = (status ≡ 4) × Keeps old new

-- there is no verdict: nothing is written
abbrev pub IsStopped : (status : ℕ) → Type 0
IsStopped status = (status ≡ 2) ⊎ ((status ≡ 3) ⊎ (status ≡ 4))
