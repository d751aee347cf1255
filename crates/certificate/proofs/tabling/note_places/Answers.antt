use Rattle.std.proofs.Common.{map}
use Rattle.std.specs.List.{flat_map}
use Rattle.certificate_text.specs.Items.{place_items}
use Rattle.certificate.specs.View as view
use Rattle.certificate.specs.Tables.{table}
use Rattle.certificate.specs.UsedForms.{with_forms}
use Rattle.certificate.proofs.Noting.{block_noted}
use Rattle.certificate.proofs.tabling.note_places.Goals as goal

pub loop-place-preserved : goal.loop-place-preserved
loop-place-preserved c =
    block_noted place_items view.place c.args.places.now c.loop-place.place-index c.place-item.result (table c.loop-place.table) (table c.note_place.new.table) (with_forms (table c.args.table.now) (flat_map place_items (map view.place c.args.places.now))) c.loop-place-test.true c.place-item.is c.in_ok-note_place.ensures c.loop-place.invariant
