use Rattle.std.proofs.Common.{◌≡◌, ◌++◌, drop, map}
use Rattle.std.specs.List.{flat_map}
use Rattle.std.specs.String.{string_bytes}
use Rattle.certificate_text.specs.Text as text
use Rattle.certificate.specs.View as view
use Rattle.certificate.proofs.part_writer.push_parts.Given as goal

abbrev pub invariant-loop-part : goal.invariant-loop-part
invariant-loop-part l = string_bytes l.out ++ flat_map text.scaled_text (map view.scaled (drop l.part-index l.parts)) ≡ string_bytes l.initial.out ++ flat_map text.scaled_text (map view.scaled l.parts)
