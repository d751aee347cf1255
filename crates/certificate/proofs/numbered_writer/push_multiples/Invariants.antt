use Rattle.std.proofs.Common.{◌≡◌, ◌++◌, drop, map}
use Rattle.std.specs.String.{string_bytes}
use Rattle.lines.specs.Lines.{text_of_lines}
use Rattle.certificate.specs.NumberedLines.{multiple_line}
use Rattle.certificate.specs.View as view
use Rattle.certificate.specs.Tables.{table}
use Rattle.certificate.proofs.numbered_writer.push_multiples.Given as goal

abbrev pub invariant-loop-multiple : goal.invariant-loop-multiple
invariant-loop-multiple l =
    string_bytes l.out ++ text_of_lines (map (multiple_line (table l.table)) (map view.multiple (drop l.multiple-index l.multiples)))
    ≡ string_bytes l.initial.out ++ text_of_lines (map (multiple_line (table l.table)) (map view.multiple l.multiples))
