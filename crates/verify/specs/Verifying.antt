-- What is promised of a kernel that is proved.
use Rattle.std.specs.Prelude.{◌≡◌, ℕ, List, Bool, false, Ok}
use Rattle.certificate_text.specs.Certificate.{Certificate}
use Rattle.certificate_text.specs.NumberedText.{text_of_two}
use Rattle.launch_text.specs.ConditionsReading.{conditions_of}
use Rattle.kernel_names.specs.View.{names_seen}
use Rattle.core_code.specs.View.{kernel as core_seen}
use Rattle.launch.specs.View.{conditions as conditions_seen}
use Rattle.launch_text.specs.View.{lined}
use Rattle.kernel_reading.specs.Kernels.{read, Source}
use Rattle.kernel_reading.specs.Answers.{kernel_seen}
use Rattle.cert_check.specs.Accepting.{IsAcceptedBy, HasHeadline}
use Rattle.cert_check.specs.Refusing.{IsPassedBy}
use Rattle.cert_check.specs.View.{typed_of, kept}
use Rattle.cert_check.specs.declared.accepted.Accepted.{Accepted}

-- what is accepted are the kernel and the conditions of these bytes; the third text says a certificate, and with that no obligation stops
-- the check, which is the wide one or is not; so at each launch that meets the conditions the kernel is pair-safe, and the headline holds
pub record IsVerifiedBy (is_wide : Bool) (kernel_text : Source) (conditions_text certificate_text : List ℕ) (a : Accepted) : Type 0 where
  pub kernel : read kernel_text ≡ Ok (kernel_seen (typed_of a))
  pub conditions : conditions_of is_wide (names_seen (typed_of a).0).parameters conditions_text ≡ Ok (lined (kept a))
  pub passed : IsPassedBy is_wide (typed_of a) (conditions_seen (kept a)) certificate_text
  pub pair : IsAcceptedBy is_wide (core_seen (typed_of a).1) (conditions_seen (kept a))
  pub headline : HasHeadline (core_seen (typed_of a).1) (conditions_seen (kept a))

-- of conditions of version 1, and the certificate's text of version 2
abbrev pub IsVerified : (kernel_text : Source) (conditions_text : List ℕ) (certificate : Certificate) (a : Accepted) → Type 0
IsVerified kernel_text conditions_text certificate a = IsVerifiedBy false kernel_text conditions_text (text_of_two certificate) a
