use Rattle.std.proofs.Common.{◌++◌, map}
use Rattle.std.specs.List.{flat_map}
use Rattle.std.specs.String.{string_bytes}
use Rattle.lines.specs.Lines.{text_of_lines}
use Rattle.certificate.specs.NumberedLines.{lemma_lines}
use Rattle.certificate.specs.View as view
use Rattle.certificate.specs.Tables.{table}
use Rattle.certificate.proofs.Texts.{one_block}
use Rattle.certificate.proofs.numbered_writer.push_lemmas.Goals as goal

pub loop-lemma-preserved : goal.loop-lemma-preserved
loop-lemma-preserved c =
    let lines = lemma_lines (table c.args.table.now) in
    one_block lines view.lemma c.args.lemmas.now c.loop-lemma.lemma-index c.lemma-item.result (string_bytes c.loop-lemma.out) (string_bytes c.push_lemma.new.out) (string_bytes c.args.out.now ++ text_of_lines (flat_map lines (map view.lemma c.args.lemmas.now))) c.loop-lemma-test.true c.lemma-item.is c.in_ok-push_lemma.ensures c.loop-lemma.invariant
