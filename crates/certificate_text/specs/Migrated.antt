-- A text of version 1, written in version 2.
use Rattle.std.specs.Prelude.{ℕ, List, Result, Ok, Err}
use Rattle.certificate_text.specs.Certificate.{CertificateFault}
use Rattle.certificate_text.specs.Reading.{Read, certificate_of}
use Rattle.certificate_text.specs.NumberedText.{text_of_two}

abbrev pub written : Read → Result (List ℕ) CertificateFault
written (Ok c) = Ok (text_of_two c)
written (Err fault) = Err fault

-- the text of version 2 of the certificate that is read, or the fault of what is none
abbrev pub migrated : List ℕ → Result (List ℕ) CertificateFault
migrated text = written (certificate_of text)
