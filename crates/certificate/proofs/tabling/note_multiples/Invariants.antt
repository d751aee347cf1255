use Rattle.std.proofs.Common.{◌≡◌, drop, map}
use Rattle.certificate_text.specs.Lines.{MultipleItem}
use Rattle.certificate.specs.View as view
use Rattle.certificate.specs.Tables.{table}
use Rattle.certificate.specs.UsedForms.{with_forms}
use Rattle.certificate.proofs.tabling.note_multiples.Given as goal

abbrev pub invariant-loop-multiple : goal.invariant-loop-multiple
invariant-loop-multiple l = with_forms (table l.table) (map MultipleItem (map view.multiple (drop l.multiple-index l.multiples))) ≡ with_forms (table l.initial.table) (map MultipleItem (map view.multiple l.multiples))
