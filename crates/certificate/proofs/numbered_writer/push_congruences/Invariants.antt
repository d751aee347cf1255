use Rattle.std.proofs.Common.{◌≡◌, ◌++◌, drop, map}
use Rattle.std.specs.String.{string_bytes}
use Rattle.lines.specs.Lines.{text_of_lines}
use Rattle.certificate.specs.NumberedLines.{congruence_line}
use Rattle.certificate.specs.View as view
use Rattle.certificate.specs.Tables.{table}
use Rattle.certificate.proofs.numbered_writer.push_congruences.Given as goal

abbrev pub invariant-loop-congruence : goal.invariant-loop-congruence
invariant-loop-congruence l =
    string_bytes l.out ++ text_of_lines (map (congruence_line (table l.table)) (map view.congruence (drop l.congruence-index l.congruences)))
    ≡ string_bytes l.initial.out ++ text_of_lines (map (congruence_line (table l.table)) (map view.congruence l.congruences))
