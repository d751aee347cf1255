use Rattle.std.proofs.Common.{map, ap, ◌∙◌}
use Rattle.std.specs.List.{flat_map}
use Rattle.certificate_text.specs.Items.{lemma_items}
use Rattle.certificate.specs.View as view
use Rattle.certificate.specs.Tables.{table}
use Rattle.certificate.specs.UsedForms.{with_forms}
use Rattle.certificate.proofs.Noting.{entry_noted}
use Rattle.certificate.proofs.tabling.note_entry.Goals as goal

pub returns : goal.returns
returns c =
    let middle = table c.note_sort.new.table in
    entry_noted (table c.args.table.now) middle (table c.note_lemmas.new.table) (view.entry c.args.entry.now) c.in_ok-note_sort.ensures (c.in_ok-note_lemmas.ensures ∙ ap (λ ls. with_forms middle (flat_map lemma_items (map view.lemma ls))) c.as_slice.ensures.value)
