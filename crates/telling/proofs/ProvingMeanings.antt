-- What the code's answers are in the promise.
use Rattle.kernel_reading.specs.Kernels.{Source}
use Rattle.std.proofs.Common.{◌≡◌, refl}
use Rattle.std.specs.Prelude.{ℕ, List, Bool, Option, Some, None, IfSome}
use Rattle.semantics.specs.Launch as launches
use Rattle.semantics.specs.Launch.{Launch, Fits}
use Rattle.semantics.specs.Conditions.{Conditions, Meets}
use Rattle.typed_kernels.specs.TypedKernel.{TypedKernel}
use Rattle.kernel_reading.specs.Answers.{kernel_seen}
use Rattle.cert_check.specs.Refusing.{IsPassedBy, RefusesBy}
use Rattle.cert_check.specs.Numbers as checks
use Rattle.cert_check.specs.declared.error.CheckError.{CheckError}
use Rattle.telling.specs.Refusing.{IsLineOf}
use Rattle.telling.specs.declared.Verdict.{Verdict}
use Rattle.telling.specs.declared.Verdict.TheVariants as verdicts
use Rattle.telling.specs.Proving.{IsProof, IsUnproved}
use Rattle.telling.specs.Telling.{IsAcceptedText}
use Rattle.telling.specs.ProvingVerdicts.{GoesOn, GoesFurther, IsProvedBySome, Explains, ExplainsCheck}

pub is_proof : (is_wide : Bool) (t : TypedKernel) (c : Conditions) (certificate : List ℕ) → IsPassedBy is_wide t c certificate → IsProof is_wide (kernel_seen t) c certificate
is_proof is_wide t c certificate (met, cert, n, is, said, passes) = (met, cert, is, (n, said, passes))

-- the launch at the least values is one of the kernel, and meets the conditions
pub fits_and_meets : (k : launches.Kernel) (c : Conditions) (o : Option Launch) → ((l : Launch) → o ≡ Some l → Fits k l) → IfSome o (Meets c) → IfSome o (λ l. Fits k l × Meets c l)
fits_and_meets k c (Some l) f h = (f l refl, h)
fits_and_meets k c None f h = tt

-- what goes on behind a refusal explains it
pub explains : (is_wide : Bool) (kernel : Source) (conditions told : List ℕ) (v : Verdict) → IsUnproved is_wide 1 kernel conditions told → GoesOn told v → Explains is_wide v kernel conditions
explains is_wide kernel conditions told (verdicts.Done text) r h = absurd h
explains is_wide kernel conditions told (verdicts.Refused text) r h = (told, h.0, r, h.1)
explains is_wide kernel conditions told verdicts.OutOfMemory r h = tt

pub explains_check : (is_wide : Bool) (kernel : Source) (conditions certificate told : List ℕ) (e : CheckError) (v : Verdict) → RefusesBy is_wide e kernel conditions certificate → IsLineOf (checks.error_number e) (checks.error_place e) told → GoesOn told v → ExplainsCheck is_wide v kernel conditions certificate
explains_check is_wide kernel conditions certificate told e (verdicts.Done text) r is h = absurd h
explains_check is_wide kernel conditions certificate told e (verdicts.Refused text) r is h = (told, h.0, (e, r, is), h.1)
explains_check is_wide kernel conditions certificate told e verdicts.OutOfMemory r is h = tt

-- what goes on behind an acceptance explains it
pub explains_accepted : (is_wide : Bool) (kernel : Source) (conditions certificate told : List ℕ) (v : Verdict) → IsAcceptedText is_wide kernel conditions told → GoesFurther told v → ExplainsCheck is_wide v kernel conditions certificate
explains_accepted is_wide kernel conditions certificate told (verdicts.Done text) r h = (told, h.0, r, h.1)
explains_accepted is_wide kernel conditions certificate told (verdicts.Refused text) r h = absurd h
explains_accepted is_wide kernel conditions certificate told verdicts.OutOfMemory r h = tt

pub explains_proved : (is_wide : Bool) (kernel : Source) (conditions told : List ℕ) (v : Verdict) → IsProvedBySome is_wide kernel conditions told → GoesFurther told v → Explains is_wide v kernel conditions
explains_proved is_wide kernel conditions told (verdicts.Done text) r h = (told, h.0, r, h.1)
explains_proved is_wide kernel conditions told (verdicts.Refused text) r h = absurd h
explains_proved is_wide kernel conditions told verdicts.OutOfMemory r h = tt
