use Rattle.std.proofs.Common.{◌++◌, map, sym}
use Rattle.std.specs.String.{string_bytes}
use Rattle.lines.specs.Lines.{text_of_lines}
use Rattle.certificate_text.specs.NumberedText.{table_line}
use Rattle.certificate.specs.View as view
use Rattle.certificate.specs.Tables.{table}
use Rattle.certificate.proofs.NumberedTexts.{table_line_more}
use Rattle.certificate.proofs.numbered_writer.push_table.Goals as goal

pub loop-index-preserved : goal.loop-index-preserved
loop-index-preserved c =
    let forms = table c.args.table.now in
    table_line_more forms c.loop-index.index (view.form c.in-Some.form.now) (string_bytes c.loop-index.out) (string_bytes c.push_table_line.new.out) (string_bytes c.args.out.now ++ text_of_lines (map table_line forms)) (sym c.in-Some.ensures) c.in_ok-push_table_line.ensures c.loop-index.invariant
