use Rattle.std.proofs.Common.{◌≡◌, drop, map}
use Rattle.std.specs.List.{flat_map}
use Rattle.certificate_text.specs.Items.{lemma_items}
use Rattle.certificate.specs.View as view
use Rattle.certificate.specs.Tables.{table}
use Rattle.certificate.specs.UsedForms.{with_forms}
use Rattle.certificate.proofs.tabling.note_lemmas.Given as goal

abbrev pub invariant-loop-lemma : goal.invariant-loop-lemma
invariant-loop-lemma l =
    with_forms (table l.table) (flat_map lemma_items (map view.lemma (drop l.lemma-index l.lemmas))) ≡ with_forms (table l.initial.table) (flat_map lemma_items (map view.lemma l.lemmas))
