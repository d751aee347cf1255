-- What the code has of what a certificate says.
use Rattle.certificate_notes.specs.Noted.{lemma_form}
use Rattle.certificate_notes.specs.NamesView.{names}
use Rattle.certificate_notes.specs.declared.names.Names.{Names}
use Rattle.obligations.specs.View.{quotient_of}
use Rattle.entry_check.specs.Entries as entries
use Rattle.entry_check.specs.declared.said.Said.{Said}

abbrev pub stated : Names → entries.Stating
stated n = lemma_form (names n)

abbrev pub said : Said → entries.Said
said s = record { quotient = quotient_of s.notes.now.quotients.items; stated = stated s.names }
