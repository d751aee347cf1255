-- The forms of numbers, and what the code's answers stand for.
use Rattle.std.specs.Prelude.{ℕ, Option, Some}
use Rattle.linear.specs.Linear as linear
use Rattle.certificate_text.specs.Certificate as certificate
use Rattle.certificate_text.specs.Lines as meaning
use Rattle.certificate_text.specs.Forms.{then}
use Rattle.certificate_text.specs.FormTables as tables
use Rattle.certificate_text.specs.NumberedReading as reading
use Rattle.certificate.specs.declared.tree.Form.{Form}
use Rattle.certificate.specs.declared.tree.EntrySort.{EntrySort}
use Rattle.certificate.specs.declared.item.Item.{Item}
use Rattle.certificate.specs.declared.numbered_reader.NumberedDraft.{NumberedDraft}
use Rattle.certificate.specs.View as view
use Rattle.certificate.specs.Items as items
use Rattle.certificate.specs.Drafts as drafts

abbrev pub used_form : ℕ × Form → ℕ × linear.Form certificate.Name
used_form r = (r.0, view.form r.1)

abbrev pub used_sort : ℕ × EntrySort → ℕ × certificate.EntrySort
used_sort r = (r.0, view.sort r.1)

abbrev pub used_item : ℕ × Item → ℕ × meaning.Item
used_item r = (r.0, items.item r.1)

-- a sort with the form of its number
abbrev pub sort_by : tables.FormTable → ℕ → certificate.EntrySort → Option (ℕ × certificate.EntrySort)
sort_by forms used certificate.Show = Some (used, certificate.Show)
sort_by forms used certificate.Positive = Some (used, certificate.Positive)
sort_by forms used certificate.Negative = Some (used, certificate.Negative)
sort_by forms used (certificate.Quotient number) = then (reading.form_by forms used number) (λ r. Some (r.0, certificate.Quotient r.1))

abbrev pub numbered_draft : NumberedDraft → reading.NumberedDraft
numbered_draft d = reading.numbered_draft d.used (drafts.draft d.read)
