use Rattle.std.proofs.Common.{◌≡◌, ◌++◌, drop, map}
use Rattle.std.specs.String.{string_bytes}
use Rattle.lines.specs.Lines.{text_of_lines}
use Rattle.certificate_text.specs.Text as text
use Rattle.certificate.proofs.part_writer.push_same.Given as goal

abbrev pub invariant-loop-name : goal.invariant-loop-name
invariant-loop-name l = string_bytes l.out ++ text_of_lines (map text.same_line (map string_bytes (drop l.name-index l.names))) ≡ string_bytes l.initial.out ++ text_of_lines (map text.same_line (map string_bytes l.names))
