use Rattle.std.proofs.Common.{◌++◌, map}
use Rattle.std.specs.String.{string_bytes}
use Rattle.lines.specs.Lines.{text_of_lines}
use Rattle.certificate.specs.NumberedLines.{fact_line}
use Rattle.certificate.specs.View as view
use Rattle.certificate.specs.Tables.{table}
use Rattle.certificate.proofs.Texts.{one_line}
use Rattle.certificate.proofs.numbered_writer.push_facts.Goals as goal

pub loop-form-preserved : goal.loop-form-preserved
loop-form-preserved c =
    let line = fact_line (table c.args.table.now) in
    one_line line view.form c.args.forms.now c.loop-form.form-index c.form-item.result (string_bytes c.loop-form.out) (string_bytes c.push_fact.new.out) (string_bytes c.args.out.now ++ text_of_lines (map line (map view.form c.args.forms.now))) c.loop-form-test.true c.form-item.is c.in_ok-push_fact.ensures c.loop-form.invariant
