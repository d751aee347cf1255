-- What the program promises of a kernel for which it found a certificate.
use Rattle.std.specs.Prelude.{◌≡◌, ℕ, List, [], ◌++◌, map, codes, Bool, Option, Some, None, IfSome, Ok}
use Rattle.std.specs.List.{flat_map}
use Rattle.semantics.specs.Launch.{Launch, Fits}
use Rattle.semantics.specs.Conditions as meaning
use Rattle.semantics.specs.Conditions.{Meets}
use Rattle.certificate_text.specs.Certificate.{Certificate}
use Rattle.arrivals.specs.Loops.{unmet}
use Rattle.launch.specs.Least.{probe}
use Rattle.launch.specs.View.{conditions as conditions_seen}
use Rattle.launch.specs.declared.conditions.Conditions.{Conditions}
use Rattle.kernel_reading.specs.Kernels.{Kernel, Source}
use Rattle.cert_check.specs.Breadth.{text_says}
use Rattle.cert_check.specs.Checked.{PassesWith}
use Rattle.findings.specs.Findings.{Finding}
use Rattle.findings.specs.Wording.{finding_text}
use Rattle.findings.specs.View.{finding as finding_seen}
use Rattle.findings.specs.declared.finding.Finding as code
use Rattle.proof_search.specs.Searching.{TellsOf}
use Rattle.proof_search.specs.Numbers.{error_number, error_place}
use Rattle.proof_search.specs.declared.error.VerifyError.{VerifyError}
use Rattle.proof_search.specs.declared.error.VerifyError.TheVariants as errors
use Rattle.telling.specs.Refusals.{refusal_line, place_seen}
use Rattle.telling.specs.Telling.{AreSafeTexts, accepted_line}

-- the check, which is the wide one or is not, accepts the kernel with the certificate of these bytes: no loop misses its barrier, the bytes
-- say a certificate, and with it nothing stops the check
abbrev pub IsProof : (is_wide : Bool) → Kernel → meaning.Conditions → (certificate : List ℕ) → Type 0
IsProof is_wide k c certificate = (unmet k.core.body ≡ None) × (cert : Certificate) × (text_says is_wide certificate ≡ Ok cert) × PassesWith k.core k.names c cert

abbrev pub no_launch_line : List ℕ
no_launch_line = codes "no launch found at least values\n"

-- `accepted`, and a line more where the least values are no launch
abbrev pub proved_lines : Option Launch → List ℕ
proved_lines (Some l) = accepted_line
proved_lines None = accepted_line ++ no_launch_line

-- the headline holds at each launch that meets the conditions, and the check accepts this certificate; the launch at the least values is
-- one of the kernel and meets them, where there is one
pub record IsProved (is_wide : Bool) (kernel : Source) (conditions certificate written : List ℕ) (k : Kernel) (c : Conditions) : Type 0 where
  pub safe : AreSafeTexts is_wide kernel conditions k (conditions_seen c)
  pub proof : IsProof is_wide k (conditions_seen c) certificate
  pub least : IfSome (probe c) (λ l. Fits k.core l × Meets (conditions_seen c) l)
  pub text : written ≡ proved_lines (probe c)

abbrev pub IsProvedText : (is_wide : Bool) → (kernel : Source) (conditions certificate written : List ℕ) → Type 0
IsProvedText is_wide kernel conditions certificate written = (k : Kernel) × (c : Conditions) × IsProved is_wide kernel conditions certificate written k c

-- the findings that an error has
abbrev pub found : VerifyError → List code.Finding
found (errors.Check e) = []
found errors.Workers = []
found (errors.NotShown findings) = findings.items
found errors.TooLong = []
found errors.Memory = []

-- a line for each finding
abbrev pub findings_text : List Finding → List ℕ
findings_text fs = flat_map finding_text fs

-- the line has the number and the place of an error, and behind it stands a line for each of its findings; a refusal of the two texts is
-- true of them, 70 is told of such a number of workers, and what findings confirm is true of the kernel and the conditions that the bytes
-- say; nothing else is said of the kernel
pub record IsShortfall (is_wide : Bool) (workers : ℕ) (kernel : Source) (conditions text : List ℕ) (e : VerifyError) : Type 0 where
  pub lines : text ≡ refusal_line (error_number e) (place_seen (error_place e)) ++ findings_text (map finding_seen (found e))
  pub tells : TellsOf is_wide e workers kernel conditions

abbrev pub IsUnproved : (is_wide : Bool) → (workers : ℕ) → (kernel : Source) (conditions text : List ℕ) → Type 0
IsUnproved is_wide workers kernel conditions text = (e : VerifyError) × IsShortfall is_wide workers kernel conditions text e
