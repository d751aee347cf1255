use Rattle.std.proofs.Common.{◌≡◌, drop, map}
use Rattle.std.specs.List.{flat_map}
use Rattle.certificate_text.specs.Items.{place_items}
use Rattle.certificate.specs.View as view
use Rattle.certificate.specs.Tables.{table}
use Rattle.certificate.specs.UsedForms.{with_forms}
use Rattle.certificate.proofs.tabling.note_places.Given as goal

abbrev pub invariant-loop-place : goal.invariant-loop-place
invariant-loop-place l =
    with_forms (table l.table) (flat_map place_items (map view.place (drop l.place-index l.places))) ≡ with_forms (table l.initial.table) (flat_map place_items (map view.place l.places))
