use Rattle.std.proofs.Common.{◌++◌, map}
use Rattle.std.specs.String.{string_bytes}
use Rattle.lines.specs.Lines.{text_of_lines}
use Rattle.certificate.specs.NumberedLines.{multiple_line}
use Rattle.certificate.specs.View as view
use Rattle.certificate.specs.Tables.{table}
use Rattle.certificate.proofs.Texts.{one_line}
use Rattle.certificate.proofs.numbered_writer.push_multiples.Goals as goal

pub loop-multiple-preserved : goal.loop-multiple-preserved
loop-multiple-preserved c =
    let line = multiple_line (table c.args.table.now) in
    one_line line view.multiple c.args.multiples.now c.loop-multiple.multiple-index c.multiple-item.result (string_bytes c.loop-multiple.out) (string_bytes c.push_multiple.new.out) (string_bytes c.args.out.now ++ text_of_lines (map line (map view.multiple c.args.multiples.now))) c.loop-multiple-test.true c.multiple-item.is c.in_ok-push_multiple.ensures c.loop-multiple.invariant
