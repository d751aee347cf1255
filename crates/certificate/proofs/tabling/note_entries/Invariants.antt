use Rattle.std.proofs.Common.{◌≡◌, drop, map}
use Rattle.std.specs.List.{flat_map}
use Rattle.certificate_text.specs.Items.{entry_items}
use Rattle.certificate.specs.View as view
use Rattle.certificate.specs.Tables.{table}
use Rattle.certificate.specs.UsedForms.{with_forms}
use Rattle.certificate.proofs.tabling.note_entries.Given as goal

abbrev pub invariant-loop-entry : goal.invariant-loop-entry
invariant-loop-entry l =
    with_forms (table l.table) (flat_map entry_items (map view.entry (drop l.entry-index l.entries))) ≡ with_forms (table l.initial.table) (flat_map entry_items (map view.entry l.entries))
