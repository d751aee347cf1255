use Rattle.std.proofs.Common.{◌≡◌, drop, map}
use Rattle.certificate_text.specs.Lines.{BoundItem}
use Rattle.certificate.specs.View as view
use Rattle.certificate.specs.Tables.{table}
use Rattle.certificate.specs.UsedForms.{with_forms}
use Rattle.certificate.proofs.tabling.note_bounds.Given as goal

abbrev pub invariant-loop-bound : goal.invariant-loop-bound
invariant-loop-bound l = with_forms (table l.table) (map BoundItem (map view.bound (drop l.bound-index l.bounds))) ≡ with_forms (table l.initial.table) (map BoundItem (map view.bound l.bounds))
