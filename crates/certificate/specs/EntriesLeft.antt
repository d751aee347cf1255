-- What is left of a certificate's text behind the line of its first entry: entries, and how they end.
use Rattle.std.specs.Prelude.{ℕ, suc, List, [], ◌∷◌, ◌++◌, Bool, true, false, cond, Option, None, Some, Ok, Err}
use Rattle.lines.specs.Lines.{is_empty}
use Rattle.certificate_text.specs.Certificate.{Entry, Certificate, CertificateFault, BadLine}
use Rattle.certificate_text.specs.Forms.{then}
use Rattle.certificate_text.specs.FormTables.{FormTable}
use Rattle.certificate_text.specs.Drafts.{Open, Nothing, InPlace, InEntry, InLemma, Ended, draft}
use Rattle.certificate_text.specs.Reading.{Read, finish, add_line, read_lines, unless}
use Rattle.certificate_text.specs.NumberedReading.{NumberedDraft, numbered_draft, add_numbered, finish_numbered, read_numbered}

-- the entries that are left, and the fault behind them; none where the text ends there as it has to
pub record Left : Type 0 where
  pub entries : List Entry
  pub fault : Option CertificateFault

abbrev pub ends : Option CertificateFault → Left
ends fault = record { entries = []; fault = fault }

-- these entries, and no fault behind them
abbrev pub whole_of : List Entry → Left
whole_of es = record { entries = es; fault = None }

abbrev pub with_first : List Entry → Left → Left
with_first es l = record { entries = es ++ l.entries; fault = l.fault }

-- one more line, which has forms, or numbers of forms
abbrev pub add_row : (is_numbered : Bool) → FormTable → NumberedDraft → List ℕ → Option NumberedDraft
add_row false forms d line = then (add_line d.read line) (λ e. Some (numbered_draft d.used e))
add_row true forms d line = add_numbered forms d line

-- the reader of lines, which have forms, or numbers of forms
abbrev pub read_rows : (is_numbered : Bool) → FormTable → ℕ → NumberedDraft → List (List ℕ) → Read
read_rows false forms n d ls = read_lines n d.read ls
read_rows true forms n d ls = read_numbered forms n d ls

-- the end of the text, with what stands behind the last line feed
abbrev pub finish_rows : (is_numbered : Bool) → FormTable → ℕ → NumberedDraft → List ℕ → Read
finish_rows false forms n d rest = finish n d.read rest
finish_rows true forms n d rest = finish_numbered forms n d rest

-- a certificate with these entries in place of its own
abbrev pub with_entries : List Entry → Certificate → Certificate
with_entries es c = record c { entries = es }

-- a draft whose settled entries were taken out
abbrev pub emptied : NumberedDraft → NumberedDraft
emptied d = numbered_draft d.used (draft (with_entries [] d.read.settled) d.read.opened)

abbrev pub fault_of : Read → Option CertificateFault
fault_of (Ok c) = None
fault_of (Err fault) = Some fault

-- the entries that a line settles come first
abbrev pub go_on : ℕ → Option NumberedDraft → (NumberedDraft → Left) → Left
go_on n None go = ends (Some (BadLine n))
go_on n (Some d) go = with_first d.read.settled.entries (go (emptied d))

-- what the reader of lines gives, line by line, from here on: the next entry where the line behind its last one may stand there
abbrev pub entries_left : (is_numbered : Bool) → FormTable → ℕ → NumberedDraft → List (List ℕ) → Left
entries_left is_numbered forms n d [] = ends (Some (BadLine n))
entries_left is_numbered forms n d (line ∷ others) =
    cond (is_empty others) (ends (fault_of (finish_rows is_numbered forms n d line)))
    (go_on n (add_row is_numbered forms d line) (λ e. entries_left is_numbered forms (suc n) e others))

-- whether the line of the first entry, or the last line, was read
abbrev pub has_begun : Open → Bool
has_begun Nothing = false
has_begun (InPlace p) = false
has_begun (InEntry e) = true
has_begun (InLemma e l) = true
has_begun Ended = true

-- what a text says: what stands before its entries, with these, or the fault behind them
abbrev pub gathered : Certificate → Left → Read
gathered c l = unless l.fault (Ok (with_entries l.entries c))
