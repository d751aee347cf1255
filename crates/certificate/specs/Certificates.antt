-- The code's certificates as those of the definitions, and its answers.
use Rattle.std.specs.Prelude.{◌≡◌, Option, Result, Ok, Err}
use Rattle.certificate_text.specs.Certificate as certificates
use Rattle.certificate_text.specs.Reading as reading
use Rattle.certificate_text.specs.Forms.{when}
use Rattle.certificate_text.specs.Rules.{is_certificate, is_wide_certificate}
use Rattle.certificate.specs.declared.certificate.Certificate.{Certificate}
use Rattle.certificate.specs.declared.error.CertError.{CertError}
use Rattle.certificate.specs.declared.error.CertError.TheVariants as errors
use Rattle.certificate.specs.Answers.{fault}
use Rattle.certificate.specs.Drafts as drafts

abbrev pub certificate : Certificate → certificates.Certificate
certificate c = drafts.parts c.parts

-- an error is the definition's, unless memory was refused
abbrev pub Refuses : CertError → reading.Read → Type 0
Refuses (errors.Refused f) answer = answer ≡ Err (fault f)
Refuses errors.Memory answer = Unit {0}

abbrev pub Says : Result Certificate CertError → reading.Read → Type 0
Says (Ok c) answer = answer ≡ Ok (certificate c)
Says (Err e) answer = Refuses e answer

-- a certificate that has a text, length aside, in versions 1 and 2
abbrev pub proper : certificates.Certificate → Option certificates.Certificate
proper c = when (is_certificate c) c

-- and in version 4
abbrev pub proper_wide : certificates.Certificate → Option certificates.Certificate
proper_wide c = when (is_wide_certificate c) c
