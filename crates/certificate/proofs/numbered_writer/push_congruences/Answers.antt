use Rattle.std.proofs.Common.{◌++◌, map}
use Rattle.std.specs.String.{string_bytes}
use Rattle.lines.specs.Lines.{text_of_lines}
use Rattle.certificate.specs.NumberedLines.{congruence_line}
use Rattle.certificate.specs.View as view
use Rattle.certificate.specs.Tables.{table}
use Rattle.certificate.proofs.Texts.{one_line}
use Rattle.certificate.proofs.numbered_writer.push_congruences.Goals as goal

pub loop-congruence-preserved : goal.loop-congruence-preserved
loop-congruence-preserved c =
    let line = congruence_line (table c.args.table.now) in
    one_line line view.congruence c.args.congruences.now c.loop-congruence.congruence-index c.congruence-item.result (string_bytes c.loop-congruence.out) (string_bytes c.push_congruence.new.out) (string_bytes c.args.out.now ++ text_of_lines (map line (map view.congruence c.args.congruences.now))) c.loop-congruence-test.true c.congruence-item.is c.in_ok-push_congruence.ensures c.loop-congruence.invariant
