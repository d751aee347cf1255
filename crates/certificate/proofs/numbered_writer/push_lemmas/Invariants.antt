use Rattle.std.proofs.Common.{◌≡◌, ◌++◌, drop, map}
use Rattle.std.specs.List.{flat_map}
use Rattle.std.specs.String.{string_bytes}
use Rattle.lines.specs.Lines.{text_of_lines}
use Rattle.certificate.specs.NumberedLines.{lemma_lines}
use Rattle.certificate.specs.View as view
use Rattle.certificate.specs.Tables.{table}
use Rattle.certificate.proofs.numbered_writer.push_lemmas.Given as goal

abbrev pub invariant-loop-lemma : goal.invariant-loop-lemma
invariant-loop-lemma l =
    string_bytes l.out ++ text_of_lines (flat_map (lemma_lines (table l.table)) (map view.lemma (drop l.lemma-index l.lemmas)))
    ≡ string_bytes l.initial.out ++ text_of_lines (flat_map (lemma_lines (table l.table)) (map view.lemma l.lemmas))
