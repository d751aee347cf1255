use Rattle.std.proofs.Common.{◌++◌, map}
use Rattle.std.specs.String.{string_bytes}
use Rattle.lines.specs.Lines.{text_of_lines}
use Rattle.certificate.specs.NumberedLines.{bound_line}
use Rattle.certificate.specs.View as view
use Rattle.certificate.specs.Tables.{table}
use Rattle.certificate.proofs.Texts.{one_line}
use Rattle.certificate.proofs.numbered_writer.push_bounds.Goals as goal

pub loop-bound-preserved : goal.loop-bound-preserved
loop-bound-preserved c =
    let line = bound_line (table c.args.table.now) in
    one_line line view.bound c.args.bounds.now c.loop-bound.bound-index c.bound-item.result (string_bytes c.loop-bound.out) (string_bytes c.push_bound.new.out) (string_bytes c.args.out.now ++ text_of_lines (map line (map view.bound c.args.bounds.now))) c.loop-bound-test.true c.bound-item.is c.in_ok-push_bound.ensures c.loop-bound.invariant
