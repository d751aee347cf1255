-- What an error of a search tells.
use Rattle.kernel_reading.specs.Kernels.{Source}
use Rattle.std.specs.Prelude.{◌<◌, ◌≤◌, ◌⊎◌, ◌≡◌, ℕ, List, [], Bool, true, false, cond}
use Rattle.launch_text.specs.ConditionsReading.{Lined}
use Rattle.typed_kernels.specs.TypedKernel.{TypedKernel}
use Rattle.launch.specs.declared.conditions.Conditions as code
use Rattle.certificate_text.specs.Certificate.{Certificate}
use Rattle.certificate_text.specs.NumberedText.{text_of_two, text_of_four}
use Rattle.cert_check.specs.Refusing.{AreRead, AreMet, RefusesBy}
use Rattle.cert_check.specs.declared.error.CheckError.{CheckError}
use Rattle.cert_check.specs.declared.error.CheckError.TheVariants as checks
use Rattle.proof_search.specs.Findings.{AreTrue, AreTrueOf}
use Rattle.proof_search.specs.declared.error.VerifyError.{VerifyError}
use Rattle.proof_search.specs.declared.error.VerifyError.TheVariants as errors

-- the kernel and the conditions are read, and each loop with a barrier meets one on each way through: what stands before a search;
-- conditions of version 2 are read where the search is the wide one
abbrev pub AreSearched : (is_wide : Bool) → (kernel : Source) (conditions : List ℕ) → Type 0
AreSearched is_wide kernel conditions = (typed : TypedKernel) × (found : Lined) × AreRead is_wide typed found kernel conditions × AreMet typed

-- 1 to 64
abbrev pub IsCount : (workers : ℕ) → Type 0
IsCount workers = (1 ≤ workers) × (workers ≤ 64)

abbrev pub IsNoCount : (workers : ℕ) → Type 0
IsNoCount workers = (workers ≡ 0) ⊎ (64 < workers)

-- of the two texts, and of a loop that misses its barrier, what the check tells of them, which looks at no certificate there; the others
-- come behind these, and nothing is promised of what the search did not show
abbrev pub RefusesTexts : (is_wide : Bool) → CheckError → (workers : ℕ) → (kernel : Source) (conditions : List ℕ) → Type 0
RefusesTexts is_wide (checks.Kernel e) workers kernel conditions = RefusesBy is_wide (checks.Kernel e) kernel conditions []
RefusesTexts is_wide (checks.Conditions e) workers kernel conditions = RefusesBy is_wide (checks.Conditions e) kernel conditions []
RefusesTexts is_wide (checks.Missed site) workers kernel conditions = RefusesBy is_wide (checks.Missed site) kernel conditions []
RefusesTexts is_wide (checks.Certificate e) workers kernel conditions = IsCount workers × AreSearched is_wide kernel conditions
RefusesTexts is_wide (checks.ManyPaths site) workers kernel conditions = IsCount workers × AreSearched is_wide kernel conditions
RefusesTexts is_wide (checks.Show e) workers kernel conditions = IsCount workers × AreSearched is_wide kernel conditions

-- what findings confirm is true of the texts, and 70 is told of workers outside 1 to 64 alone, behind the refusals of the texts
abbrev pub TellsOf : (is_wide : Bool) → VerifyError → (workers : ℕ) → (kernel : Source) (conditions : List ℕ) → Type 0
TellsOf is_wide (errors.Check e) workers kernel conditions = RefusesTexts is_wide e workers kernel conditions
TellsOf is_wide errors.Workers workers kernel conditions = IsNoCount workers × AreSearched is_wide kernel conditions
TellsOf is_wide (errors.NotShown findings) workers kernel conditions = IsCount workers × AreSearched is_wide kernel conditions × AreTrueOf is_wide kernel conditions findings.items
TellsOf is_wide errors.TooLong workers kernel conditions = IsCount workers × AreSearched is_wide kernel conditions
TellsOf is_wide errors.Memory workers kernel conditions = Unit {0}

-- where the search of a kernel under conditions ends with nothing: it tells of no text
abbrev pub Ends : TypedKernel → code.Conditions → VerifyError → Type 0
Ends t c (errors.Check (checks.Kernel e)) = ⊥
Ends t c (errors.Check (checks.Conditions e)) = ⊥
Ends t c (errors.Check (checks.Missed site)) = ⊥
Ends t c (errors.Check (checks.Certificate e)) = ⊥
Ends t c (errors.Check (checks.ManyPaths site)) = Unit {0}
Ends t c (errors.Check (checks.Show e)) = Unit {0}
Ends t c errors.Workers = ⊥
Ends t c (errors.NotShown findings) = AreTrue t c findings.items
Ends t c errors.TooLong = Unit {0}
Ends t c errors.Memory = Unit {0}

-- the text of a certificate that was found: of a wide one in version 4, else in version 2
abbrev pub text_found : Certificate → List ℕ
text_found c = cond c.is_wide (text_of_four c) (text_of_two c)

-- where the wide walk may be tried, and where it may not
abbrev pub text_by : (may_widen : Bool) → Certificate → List ℕ
text_by true c = text_found c
text_by false c = text_of_two c
