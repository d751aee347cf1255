use Rattle.std.proofs.Common.{false, ap, sym, arith}
use Rattle.lines.specs.Lines.{is_empty}
use Rattle.certificate_text.specs.NumberedReading.{NumberedDraft}
use Rattle.lines.specs.Left.{left}
use Rattle.certificate.specs.EntriesLeft.{has_begun, read_rows}
use Rattle.certificate.specs.Numbers.{numbered_draft}
use Rattle.certificate.specs.Tables.{table}
use Rattle.certificate.proofs.EntriesGathered.{opens_as}
use Rattle.certificate.proofs.reader.open_lines.Goals as goal

pub open_rows-requires-clause-used : goal.open_rows-requires-clause-used
open_rows-requires-clause-used c = omega (arith, ap (λ (d : NumberedDraft). d.used) c.begun.ensures)

pub open_rows-requires-clause-none : goal.open_rows-requires-clause-none
open_rows-requires-clause-none c = ap (λ (d : NumberedDraft). is_empty d.read.settled.entries) c.begun.ensures

pub open_rows-requires-clause-before : goal.open_rows-requires-clause-before
open_rows-requires-clause-before c = ap (λ (d : NumberedDraft). has_begun d.read.opened) c.begun.ensures

pub returns : goal.returns
returns c =
    opens_as c.open_rows.result (read_rows false (table c.new-table.result) 2 (numbered_draft c.begun.result) (left c.args.lines)) _ c.open_rows.ensures
    (ap (λ d. read_rows false (table c.new-table.result) 2 d (left c.args.lines)) (sym c.begun.ensures))
