use Rattle.std.proofs.Common.{true, length, ap, sym, ◌∙◌, arith}
use Rattle.lines.specs.Lines.{is_empty}
use Rattle.certificate_text.specs.NumberedReading.{NumberedDraft, read_numbered}
use Rattle.certificate_text.proofs.NumberedSteps.{table_row, table_over}
use Rattle.lines.specs.Left.{left}
use Rattle.certificate.specs.EntriesLeft.{has_begun, read_rows}
use Rattle.certificate.specs.Numbers.{numbered_draft}
use Rattle.certificate.specs.Tables.{table}
use Rattle.certificate.proofs.EntriesGathered.{opens_as}
use Rattle.certificate.proofs.numbered_reader.open_table.Goals as goal

pub open_rows-requires-clause-room : goal.open_rows-requires-clause-room
open_rows-requires-clause-room c = c.loop-line.invariant.room

pub open_rows-requires-clause-used : goal.open_rows-requires-clause-used
open_rows-requires-clause-used c = omega (arith, ap (λ (d : NumberedDraft). d.used) c.begun.ensures)

pub open_rows-requires-clause-none : goal.open_rows-requires-clause-none
open_rows-requires-clause-none c = ap (λ (d : NumberedDraft). is_empty d.read.settled.entries) c.begun.ensures

pub open_rows-requires-clause-before : goal.open_rows-requires-clause-before
open_rows-requires-clause-before c = ap (λ (d : NumberedDraft). has_begun d.read.opened) c.begun.ensures

pub returns-in_default-table_words : goal.returns-in_default-table_words
returns-in_default-table_words c =
    let t = table c.loop-line.table in
    opens_as c.open_rows.result (read_rows true t c.loop-line.number (numbered_draft c.begun.result) (left c.loop-line.rest)) _ c.open_rows.ensures
    (c.loop-line.invariant.same ∙ table_over c.args.is_wide c.args.joins t c.loop-line.number (left c.loop-line.rest) c.in-Some.line.now (left c.in-Some.others) c.in-Some.ensures (sym c.if-is_over.ensures) (sym c.in_default-table_words.ensures)
    ∙ ap (λ d. read_numbered t c.loop-line.number d (left c.loop-line.rest)) (sym c.begun.ensures))

pub loop-line-preserved : goal.loop-line-preserved
loop-line-preserved c =
    let t = table c.loop-line.table in
    let more = table c.in-Ok.next in
    let ws = left c.in-Some-table_words.words in
    record {
      room = omega (arith, c.loop-line.invariant.room, ap length c.in-Some.ensures);
      same = c.loop-line.invariant.same ∙ table_row c.args.is_wide c.args.joins t c.loop-line.number (left c.loop-line.rest) c.in-Some.line.now (left c.in-Some.others) ws more c.in-Some.ensures (sym c.if-is_over.ensures) (sym c.in-Some-table_words.ensures) c.in-Ok.ensures;
    }
