use Rattle.std.proofs.Common.{◌≡◌, ◌++◌, drop, map}
use Rattle.std.specs.String.{string_bytes}
use Rattle.lines.specs.Lines.{text_of_lines}
use Rattle.certificate_text.specs.NumberedText.{table_line}
use Rattle.certificate.specs.Tables.{table}
use Rattle.certificate.proofs.numbered_writer.push_table.Given as goal

abbrev pub invariant-loop-index : goal.invariant-loop-index
invariant-loop-index l =
    string_bytes l.out ++ text_of_lines (map table_line (drop l.index (table l.table))) ≡ string_bytes l.initial.out ++ text_of_lines (map table_line (table l.table))
