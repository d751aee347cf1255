use Rattle.std.proofs.Common.{◌+◌, length, Ok, ap, sym, ◌∙◌, arith}
use Rattle.lines.specs.Left.{left}
use Rattle.certificate.specs.EntriesLeft.{read_rows}
use Rattle.certificate.specs.Numbers.{numbered_draft}
use Rattle.certificate.specs.Tables.{table}
use Rattle.certificate.proofs.EntriesGathered.{bad_line, no_row, opens_as}
use Rattle.certificate.proofs.EntriesOpened.{row_read, row_refused, row_last, row_none}
use Rattle.certificate.proofs.RowsKept.{row_few, row_within}
use Rattle.certificate.proofs.opening.open_rows.Goals as goal

pub returns-then-is_over : goal.returns-then-is_over
returns-then-is_over c =
    let d = numbered_draft c.loop-line.draft in
    let t = table c.args.table in
    bad_line c.bad.result c.loop-line.number _ c.bad.ensures (c.loop-line.invariant.same ∙ row_last c.args.is_numbered t c.loop-line.number d (left c.loop-line.rest) c.in-Some.line.now (left c.in-Some.others) c.in-Some.ensures (sym c.if-is_over.ensures) c.loop-line.invariant.before)

pub returns-in-Err-Bad : goal.returns-in-Err-Bad
returns-in-Err-Bad c =
    let d = numbered_draft c.loop-line.draft in
    let t = table c.args.table in
    bad_line c.bad-in-Err-Bad.result c.loop-line.number _ c.bad-in-Err-Bad.ensures (c.loop-line.invariant.same ∙ row_refused c.args.is_numbered t c.loop-line.number d (left c.loop-line.rest) c.in-Some.line.now (left c.in-Some.others) c.in-Some.ensures (sym c.if-is_over.ensures) (no_row c.in-Err-Bad.field-0 _ c.in-Err-Bad.field-0-is c.in-Err-Bad.ensures))

pub behind-requires-clause-room : goal.behind-requires-clause-room
behind-requires-clause-room c = omega (arith, c.loop-line.invariant.room, ap length c.in-Some.ensures)

pub behind-requires-clause-used : goal.behind-requires-clause-used
behind-requires-clause-used c =
    row_within c.args.is_numbered (table c.args.table) (numbered_draft c.loop-line.draft) c.in-Some.line.now (numbered_draft c.in-Ok.next) c.loop-line.invariant.used c.in-Ok.ensures

pub behind-requires-clause-none : goal.behind-requires-clause-none
behind-requires-clause-none c =
    (row_few c.args.is_numbered (table c.args.table) (numbered_draft c.loop-line.draft) c.in-Some.line.now (numbered_draft c.in-Ok.next) c.loop-line.invariant.none c.in-Ok.ensures).none c.loop-line.invariant.before

pub returns-then-has_begun : goal.returns-then-has_begun
returns-then-has_begun c =
    let b = c.args.is_numbered in
    let t = table c.args.table in
    let d = numbered_draft c.loop-line.draft in
    let e = numbered_draft c.in-Ok.next in
    opens_as (Ok c.behind.result) (read_rows b t (c.loop-line.number + 1) e (left c.in-Some.others)) _ c.behind.ensures
    (c.loop-line.invariant.same ∙ row_read b t c.loop-line.number d (left c.loop-line.rest) c.in-Some.line.now (left c.in-Some.others) e c.in-Some.ensures (sym c.if-is_over.ensures) c.in-Ok.ensures)

pub loop-line-preserved : goal.loop-line-preserved
loop-line-preserved c =
    let b = c.args.is_numbered in
    let t = table c.args.table in
    let d = numbered_draft c.loop-line.draft in
    let e = numbered_draft c.in-Ok.next in
    let few = row_few b t d c.in-Some.line.now e c.loop-line.invariant.none c.in-Ok.ensures in
    record {
      room = omega (arith, c.loop-line.invariant.room, ap length c.in-Some.ensures);
      none = few.none c.loop-line.invariant.before;
      before = sym c.if-has_begun.ensures;
      used = row_within b t d c.in-Some.line.now e c.loop-line.invariant.used c.in-Ok.ensures;
      same = c.loop-line.invariant.same ∙ row_read b t c.loop-line.number d (left c.loop-line.rest) c.in-Some.line.now (left c.in-Some.others) e c.in-Some.ensures (sym c.if-is_over.ensures) c.in-Ok.ensures;
    }

pub returns : goal.returns
returns c =
    bad_line c.bad-2.result c.loop-line.number _ c.bad-2.ensures (c.loop-line.invariant.same ∙ row_none c.args.is_numbered (table c.args.table) c.loop-line.number (numbered_draft c.loop-line.draft) (left c.loop-line.rest) c.in_default.ensures)
