use Rattle.std.proofs.Common.{◌≡◌, drop, map}
use Rattle.certificate_text.specs.Lines.{FactItem}
use Rattle.certificate.specs.View as view
use Rattle.certificate.specs.Tables.{table}
use Rattle.certificate.specs.UsedForms.{with_forms}
use Rattle.certificate.proofs.tabling.note_facts.Given as goal

abbrev pub invariant-loop-form : goal.invariant-loop-form
invariant-loop-form l = with_forms (table l.table) (map FactItem (map view.form (drop l.form-index l.forms))) ≡ with_forms (table l.initial.table) (map FactItem (map view.form l.forms))
