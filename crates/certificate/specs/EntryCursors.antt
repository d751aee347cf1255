-- The entries of a text, as what is left of them.
use Rattle.std.specs.Prelude.{◌≡◌, [], Option, None, Some, Result, Ok, Err}
use Rattle.certificate_text.specs.Certificate as certificates
use Rattle.certificate_text.specs.Reading.{Read}
use Rattle.certificate.specs.declared.tree.Entry.{Entry}
use Rattle.certificate.specs.declared.entry_reader.Entries.{Entries}
use Rattle.certificate.specs.declared.error.CertError.{CertError}
use Rattle.certificate.specs.Certificates.{Refuses}
use Rattle.certificate.specs.Drafts as drafts
use Rattle.certificate.specs.Tables.{table}
use Rattle.certificate.specs.EntriesLeft.{Left, gathered}
use Rattle.certificate.specs.EntryAnswers.{left_at, Gives, Stops}

-- what stands before the entries
abbrev pub front : Entries → certificates.Certificate
front es = drafts.parts es.front

-- the entries that were not given yet
abbrev pub left : Entries → Left
left es = left_at es.is_numbered (table es.table) es.cursor

-- the error that the last call answered
abbrev pub stopped : Entries → Option CertError
stopped es = es.stopped

-- what an answer tells of what was left before the call, and what is left behind it
abbrev pub Answers : (before : Entries) → Result (Option Entry) CertError → (behind : Entries) → Type 0
Answers before (Ok e) behind = Gives (left before) e (left behind) × (stopped behind ≡ None)
Answers before (Err e) behind = Stops e (left before) × (stopped behind ≡ Some e)

-- a text is what stands before its entries, and these; an error is the definition's, unless memory was refused
abbrev pub Opens : Result Entries CertError → Read → Type 0
Opens (Ok es) answer = (answer ≡ gathered (front es) (left es)) × (stopped es ≡ None) × ((front es).entries ≡ [])
Opens (Err e) answer = Refuses e answer
