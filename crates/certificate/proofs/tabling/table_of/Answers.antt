use Rattle.std.proofs.Common.{[], map, ap, ◌∙◌}
use Rattle.std.specs.List.{flat_map}
use Rattle.certificate_text.specs.Lines.{BoundItem}
use Rattle.certificate_text.specs.Items.{place_items, entry_items}
use Rattle.certificate.specs.View as view
use Rattle.certificate.specs.Certificates.{certificate}
use Rattle.certificate.specs.Tables.{table}
use Rattle.certificate.specs.UsedForms.{with_forms}
use Rattle.certificate.proofs.Noting.{certificate_noted}
use Rattle.certificate.proofs.tabling.table_of.Goals as goal

pub returns : goal.returns
returns c =
    let a = table c.note_places.new.table in
    let b = table c.note_bounds.new.table in
    certificate_noted (certificate c.args.of.now) a b (table c.note_entries.new.table)
    (c.in_ok-note_places.ensures ∙ ap (λ t. with_forms t (flat_map place_items (map view.place c.places.result.now))) c.new-table.ensures ∙ ap (λ ps. with_forms [] (flat_map place_items ps)) c.places.ensures)
    (c.in_ok-note_bounds.ensures ∙ ap (λ bs. with_forms a (map BoundItem bs)) c.bounds.ensures)
    (c.in_ok-note_entries.ensures ∙ ap (λ es. with_forms b (flat_map entry_items es)) c.entries.ensures)
