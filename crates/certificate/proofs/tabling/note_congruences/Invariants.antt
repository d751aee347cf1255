use Rattle.std.proofs.Common.{◌≡◌, drop, map}
use Rattle.certificate_text.specs.Lines.{CongruenceItem}
use Rattle.certificate.specs.View as view
use Rattle.certificate.specs.Tables.{table}
use Rattle.certificate.specs.UsedForms.{with_forms}
use Rattle.certificate.proofs.tabling.note_congruences.Given as goal

abbrev pub invariant-loop-congruence : goal.invariant-loop-congruence
invariant-loop-congruence l = with_forms (table l.table) (map CongruenceItem (map view.congruence (drop l.congruence-index l.congruences))) ≡ with_forms (table l.initial.table) (map CongruenceItem (map view.congruence l.congruences))
