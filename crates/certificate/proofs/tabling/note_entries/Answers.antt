use Rattle.std.proofs.Common.{map}
use Rattle.std.specs.List.{flat_map}
use Rattle.certificate_text.specs.Items.{entry_items}
use Rattle.certificate.specs.View as view
use Rattle.certificate.specs.Tables.{table}
use Rattle.certificate.specs.UsedForms.{with_forms}
use Rattle.certificate.proofs.Noting.{block_noted}
use Rattle.certificate.proofs.tabling.note_entries.Goals as goal

pub loop-entry-preserved : goal.loop-entry-preserved
loop-entry-preserved c =
    block_noted entry_items view.entry c.args.entries.now c.loop-entry.entry-index c.entry-item.result (table c.loop-entry.table) (table c.note_entry.new.table) (with_forms (table c.args.table.now) (flat_map entry_items (map view.entry c.args.entries.now))) c.loop-entry-test.true c.entry-item.is c.in_ok-note_entry.ensures c.loop-entry.invariant
