use Rattle.std.proofs.Common.{map}
use Rattle.std.specs.List.{flat_map}
use Rattle.certificate_text.specs.Items.{lemma_items}
use Rattle.certificate.specs.View as view
use Rattle.certificate.specs.Tables.{table}
use Rattle.certificate.specs.UsedForms.{with_forms}
use Rattle.certificate.proofs.Noting.{block_noted}
use Rattle.certificate.proofs.tabling.note_lemmas.Goals as goal

pub loop-lemma-preserved : goal.loop-lemma-preserved
loop-lemma-preserved c =
    block_noted lemma_items view.lemma c.args.lemmas.now c.loop-lemma.lemma-index c.lemma-item.result (table c.loop-lemma.table) (table c.note_lemma.new.table) (with_forms (table c.args.table.now) (flat_map lemma_items (map view.lemma c.args.lemmas.now))) c.loop-lemma-test.true c.lemma-item.is c.in_ok-note_lemma.ensures c.loop-lemma.invariant
