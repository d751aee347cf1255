use Rattle.std.proofs.Common.{◌≡◌, ◌++◌, drop, map}
use Rattle.std.specs.String.{string_bytes}
use Rattle.lines.specs.Lines.{text_of_lines}
use Rattle.certificate.specs.NumberedLines.{fact_line}
use Rattle.certificate.specs.View as view
use Rattle.certificate.specs.Tables.{table}
use Rattle.certificate.proofs.numbered_writer.push_facts.Given as goal

abbrev pub invariant-loop-form : goal.invariant-loop-form
invariant-loop-form l =
    string_bytes l.out ++ text_of_lines (map (fact_line (table l.table)) (map view.form (drop l.form-index l.forms)))
    ≡ string_bytes l.initial.out ++ text_of_lines (map (fact_line (table l.table)) (map view.form l.forms))
