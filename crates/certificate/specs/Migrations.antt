-- The code's answers to texts that are migrated.
use Rattle.std.specs.Prelude.{◌≡◌, ℕ, List, Vec, Result, Ok, Err}
use Rattle.std.specs.declared.alloc.Global.{Global}
use Rattle.certificate_text.specs.Certificate.{CertificateFault}
use Rattle.certificate.specs.declared.error.CertError.{CertError}
use Rattle.certificate.specs.declared.error.CertError.TheVariants as errors
use Rattle.certificate.specs.Answers.{fault}

-- an error is the definition's, unless memory was refused
abbrev pub Stops : CertError → Result (List ℕ) CertificateFault → Type 0
Stops (errors.Refused f) answer = answer ≡ Err (fault f)
Stops errors.Memory answer = Unit {0}

abbrev pub Gives : Result (Vec ℕ Global) CertError → Result (List ℕ) CertificateFault → Type 0
Gives (Ok text) answer = answer ≡ Ok text.items
Gives (Err e) answer = Stops e answer
