-- Reading a certificate of any version, by its first line.
use Rattle.std.specs.Prelude.{ℕ, List, Ok, Err}
use Rattle.certificate_text.specs.Certificate.{BadLine, OtherVersion}
use Rattle.certificate_text.specs.Reading.{Read, certificate_of}
use Rattle.certificate_text.specs.NumberedReading.{certificate_of_two, certificate_of_four}

abbrev pub unless_other : (one two : Read) → Read
unless_other (Ok c) two = Ok c
unless_other (Err (BadLine line)) two = Err (BadLine line)
unless_other (Err OtherVersion) two = two

-- what a text says in version 1, or, where it is of another version, in version 2
abbrev pub certificate_in : List ℕ → Read
certificate_in text = unless_other (certificate_of text) (certificate_of_two text)

-- and, where it is of another version than both, in version 4
abbrev pub certificate_any : List ℕ → Read
certificate_any text = unless_other (certificate_in text) (certificate_of_four text)
