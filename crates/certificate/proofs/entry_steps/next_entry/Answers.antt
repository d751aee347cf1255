use Rattle.std.proofs.Common.{◌+◌, None, Some, length, ap, sym, ◌∙◌, arith}
use Rattle.lines.specs.Left.{left}
use Rattle.certificate.specs.Answers.{fault}
use Rattle.certificate.specs.EntriesLeft.{with_first, entries_left}
use Rattle.certificate.specs.EntryAnswers.{given}
use Rattle.certificate.specs.Numbers.{numbered_draft}
use Rattle.certificate.specs.Tables.{table}
use Rattle.certificate.proofs.EntriesGathered.{bad_stop, no_row}
use Rattle.certificate.proofs.EntryTurns.{turn, turn_fault, turned, nothing_given, over, no_line, gives}
use Rattle.certificate.proofs.entry_steps.next_entry.Goals as goal

pub returns-in-Some-end_fault : goal.returns-in-Some-end_fault
returns-in-Some-end_fault c =
    c.loop-line.invariant.same
    ∙ over c.args.is_numbered (table c.args.table.now) c.loop-line.number (numbered_draft c.loop-line.draft) (left c.loop-line.rest) c.in-Some.line.now (left c.in-Some.others) (Some (fault c.in-Some-end_fault.fault)) c.in-Some.ensures (sym c.if-is_over.ensures) c.in-Some-end_fault.ensures

pub returns-then-is_over : goal.returns-then-is_over
returns-then-is_over c =
    let end = over c.args.is_numbered (table c.args.table.now) c.loop-line.number (numbered_draft c.loop-line.draft) (left c.loop-line.rest) c.in-Some.line.now (left c.in-Some.others) None c.in-Some.ensures (sym c.if-is_over.ensures) c.in_default-end_fault.ensures in
    ((c.loop-line.invariant.same ∙ end, end), c.loop-line.invariant.used)

pub invariant_of-behind : goal.invariant_of-behind
invariant_of-behind c =
    let one = turned c.args.is_numbered (table c.args.table.now) (numbered_draft c.loop-line.draft) c.in-Some.line.now (given c.in-Ok.entry) (numbered_draft c.in-Ok.next) c.loop-line.invariant.settled c.loop-line.invariant.used c.in-Ok.ensures in
    record { room = omega (arith, c.loop-line.invariant.room, ap length c.in-Some.ensures); settled = one.settled }

pub returns-then-is_some : goal.returns-then-is_some
returns-then-is_some c =
    let b = c.args.is_numbered in
    let t = table c.args.table.now in
    let d = numbered_draft c.loop-line.draft in
    let e = numbered_draft c.in-Ok.next in
    let xs = given c.in-Ok.entry in
    let line = c.in-Some.line.now in
    let one = turned b t d line xs e c.loop-line.invariant.settled c.loop-line.invariant.used c.in-Ok.ensures in (
      gives _ (entries_left b t (c.loop-line.number + 1) e (left c.in-Some.others)) c.in-Ok.entry (sym c.if-is_some.ensures)
          (c.loop-line.invariant.same ∙ turn b t c.loop-line.number d (left c.loop-line.rest) line (left c.in-Some.others) xs e c.in-Some.ensures (sym c.if-is_over.ensures) c.in-Ok.ensures),
      one.used,
    )

pub returns-in-Err-Bad : goal.returns-in-Err-Bad
returns-in-Err-Bad c =
    bad_stop c.bad.result c.loop-line.number _ c.bad.ensures
    (c.loop-line.invariant.same
    ∙ turn_fault c.args.is_numbered (table c.args.table.now) c.loop-line.number (numbered_draft c.loop-line.draft) (left c.loop-line.rest) c.in-Some.line.now (left c.in-Some.others) c.in-Some.ensures (sym c.if-is_over.ensures) (no_row c.in-Err-Bad.field-0 _ c.in-Err-Bad.field-0-is c.in-Err-Bad.ensures))

pub loop-line-preserved : goal.loop-line-preserved
loop-line-preserved c =
    let b = c.args.is_numbered in
    let t = table c.args.table.now in
    let d = numbered_draft c.loop-line.draft in
    let e = numbered_draft c.in-Ok.next in
    let xs = given c.in-Ok.entry in
    let line = c.in-Some.line.now in
    let one = turned b t d line xs e c.loop-line.invariant.settled c.loop-line.invariant.used c.in-Ok.ensures in
    record {
      room = omega (arith, c.loop-line.invariant.room, ap length c.in-Some.ensures);
      settled = one.settled;
      used = one.used;
      same = c.loop-line.invariant.same
          ∙ turn b t c.loop-line.number d (left c.loop-line.rest) line (left c.in-Some.others) xs e c.in-Some.ensures (sym c.if-is_over.ensures) c.in-Ok.ensures
          ∙ ap (λ ys. with_first ys (entries_left b t (c.loop-line.number + 1) e (left c.in-Some.others))) (nothing_given c.in-Ok.entry (sym c.if-is_some.ensures));
    }

pub returns : goal.returns
returns c =
    bad_stop c.bad-2.result c.loop-line.number _ c.bad-2.ensures
    (c.loop-line.invariant.same ∙ no_line c.args.is_numbered (table c.args.table.now) c.loop-line.number (numbered_draft c.loop-line.draft) (left c.loop-line.rest) c.in_default.ensures)
