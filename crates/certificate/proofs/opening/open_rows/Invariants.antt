use Rattle.std.proofs.Common.{◌≡◌, ◌+◌, ◌≤◌, ◌^◌, true, false, length}
use Rattle.lines.specs.Lines.{is_empty}
use Rattle.lines.specs.Left.{left}
use Rattle.certificate.specs.Drafts.{opened}
use Rattle.certificate.specs.EntriesLeft.{has_begun, read_rows}
use Rattle.certificate.specs.Numbers.{numbered_draft}
use Rattle.certificate.specs.Tables.{table}
use Rattle.certificate.proofs.opening.open_rows.Given as goal

abbrev pub invariant-loop-line : goal.invariant-loop-line
invariant-loop-line l = record {
  room : l.number + length (left l.rest) ≤ 2 ^ 32 + 3;
  none : is_empty (numbered_draft l.draft).read.settled.entries ≡ true;
  before : has_begun (opened l.draft.read.opened) ≡ false;
  used : l.draft.used ≤ length (table l.table);
  same : read_rows l.is_numbered (table l.table) l.fn.start (numbered_draft l.fn.begun) (left l.fn.lines) ≡ read_rows l.is_numbered (table l.table) l.number (numbered_draft l.draft) (left l.rest);
}

abbrev pub decreases-loop-line : goal.decreases-loop-line
decreases-loop-line l = length (left l.rest)
