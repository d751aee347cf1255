use Rattle.std.proofs.Common.{◌≡◌, ◌+◌, ◌≤◌, ◌^◌, true, length}
use Rattle.lines.specs.Lines.{is_empty}
use Rattle.lines.specs.Left.{left}
use Rattle.certificate.specs.EntriesLeft.{entries_left}
use Rattle.certificate.specs.EntryAnswers.{left_at}
use Rattle.certificate.specs.Numbers.{numbered_draft}
use Rattle.certificate.specs.Tables.{table}
use Rattle.certificate.proofs.entry_steps.next_entry.Given as goal

abbrev pub invariant-loop-line : goal.invariant-loop-line
invariant-loop-line l = record {
  room : l.number + length (left l.rest) ≤ 2 ^ 32 + 3;
  settled : is_empty (numbered_draft l.draft).read.settled.entries ≡ true;
  used : l.draft.used ≤ length (table l.table);
  same : left_at l.is_numbered (table l.table) l.fn.from ≡ entries_left l.is_numbered (table l.table) l.number (numbered_draft l.draft) (left l.rest);
}

abbrev pub decreases-loop-line : goal.decreases-loop-line
decreases-loop-line l = length (left l.rest)
