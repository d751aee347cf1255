-- What the code's cursors have left, and what their answers tell of it.
use Rattle.std.specs.Prelude.{◌≡◌, ◌≤◌, List, [], ◌∷◌, length, Bool, Option, None, Some, Result, Ok, Err, option_to_list}
use Rattle.std.specs.Option.{option_map}
use Rattle.certificate_text.specs.Certificate as certificates
use Rattle.certificate_text.specs.FormTables.{FormTable}
use Rattle.certificate_text.specs.NumberedReading.{NumberedDraft as DraftMeant}
use Rattle.lines.specs.Left.{left as lines_left}
use Rattle.certificate.specs.declared.tree.Entry.{Entry}
use Rattle.certificate.specs.declared.numbered_reader.NumberedDraft.{NumberedDraft}
use Rattle.certificate.specs.declared.error.CertError.{CertError}
use Rattle.certificate.specs.declared.error.CertError.TheVariants as errors
use Rattle.certificate.specs.declared.cursor.Cursor.{Cursor}
use Rattle.certificate.specs.Answers.{fault}
use Rattle.certificate.specs.View.{entry}
use Rattle.certificate.specs.Numbers.{numbered_draft}
use Rattle.certificate.specs.EntriesLeft.{Left, ends, with_first, entries_left, emptied}

abbrev pub given : Option Entry → List certificates.Entry
given r = option_to_list (option_map entry r)

abbrev pub taken : Option Entry × NumberedDraft → List certificates.Entry × DraftMeant
taken r = (given r.0, numbered_draft r.1)

-- the entries that a draft settled, and the draft without them
abbrev pub settled_first : DraftMeant → List certificates.Entry × DraftMeant
settled_first d = (d.read.settled.entries, emptied d)

abbrev pub left_at : (is_numbered : Bool) → FormTable → Cursor → Left
left_at is_numbered forms c = entries_left is_numbered forms c.number (numbered_draft c.draft) (lines_left c.rest)

-- the next entry, and what is left behind it; at the end nothing is left
abbrev pub Gives : (before : Left) → Option Entry → (behind : Left) → Type 0
Gives before (Some e) behind = before ≡ with_first (entry e ∷ []) behind
Gives before None behind = (before ≡ ends None) × (behind ≡ ends None)

-- a refusal is the definition's, unless memory was refused
abbrev pub Stops : CertError → Left → Type 0
Stops (errors.Refused f) before = before ≡ ends (Some (fault f))
Stops errors.Memory before = Unit {0}

-- a refusal is the fault behind all entries that are left, unless memory was refused
abbrev pub Ceases : CertError → Left → Type 0
Ceases (errors.Refused f) before = before.fault ≡ Some (fault f)
Ceases errors.Memory before = Unit {0}

abbrev pub Goes : (is_numbered : Bool) → FormTable → Left → Result (Option Entry × Cursor) CertError → Type 0
Goes is_numbered forms before (Ok r) = Gives before r.0 (left_at is_numbered forms r.1) × (r.1.draft.used ≤ length forms)
Goes is_numbered forms before (Err e) = Stops e before
