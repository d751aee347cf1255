use Rattle.std.proofs.Common.{◌≡◌, ◌++◌, drop, map}
use Rattle.std.specs.List.{flat_map}
use Rattle.std.specs.String.{string_bytes}
use Rattle.lines.specs.Lines.{text_of_lines}
use Rattle.certificate.specs.NumberedLines.{entry_lines}
use Rattle.certificate.specs.View as view
use Rattle.certificate.specs.Tables.{table}
use Rattle.certificate.proofs.numbered_writer.push_entries.Given as goal

abbrev pub invariant-loop-entry : goal.invariant-loop-entry
invariant-loop-entry l =
    string_bytes l.out ++ text_of_lines (flat_map (entry_lines (table l.table)) (map view.entry (drop l.entry-index l.entries)))
    ≡ string_bytes l.initial.out ++ text_of_lines (flat_map (entry_lines (table l.table)) (map view.entry l.entries))
