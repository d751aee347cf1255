use Rattle.std.proofs.Common.{◌≡◌, ◌+◌, ◌≤◌, ◌^◌, [], length}
use Rattle.certificate_text.specs.NumberedReading as reading
use Rattle.lines.specs.Left.{left}
use Rattle.certificate.specs.Tables.{table}
use Rattle.certificate.proofs.numbered_reader.open_table.Given as goal

abbrev pub invariant-loop-line : goal.invariant-loop-line
invariant-loop-line l = record {
  room : l.number + length (left l.rest) ≤ 2 ^ 32 + 3;
  same : reading.read_table l.is_wide l.joins [] (reading.table_start l.joins) (left l.lines) ≡ reading.read_table l.is_wide l.joins (table l.table) l.number (left l.rest);
}

abbrev pub decreases-loop-line : goal.decreases-loop-line
decreases-loop-line l = length (left l.rest)
