use Rattle.std.proofs.Common.{◌≡◌, ◌++◌, drop, map}
use Rattle.std.specs.String.{string_bytes}
use Rattle.lines.specs.Lines.{text_of_lines}
use Rattle.certificate.specs.NumberedLines.{bound_line}
use Rattle.certificate.specs.View as view
use Rattle.certificate.specs.Tables.{table}
use Rattle.certificate.proofs.numbered_writer.push_bounds.Given as goal

abbrev pub invariant-loop-bound : goal.invariant-loop-bound
invariant-loop-bound l =
    string_bytes l.out ++ text_of_lines (map (bound_line (table l.table)) (map view.bound (drop l.bound-index l.bounds)))
    ≡ string_bytes l.initial.out ++ text_of_lines (map (bound_line (table l.table)) (map view.bound l.bounds))
