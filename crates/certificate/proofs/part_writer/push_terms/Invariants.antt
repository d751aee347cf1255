use Rattle.std.proofs.Common.{◌≡◌, ◌++◌, drop, map}
use Rattle.std.specs.List.{flat_map}
use Rattle.std.specs.String.{string_bytes}
use Rattle.certificate_text.specs.Text as text
use Rattle.certificate.specs.View as view
use Rattle.certificate.proofs.part_writer.push_terms.Given as goal

abbrev pub invariant-loop-term : goal.invariant-loop-term
invariant-loop-term l =
    string_bytes l.out ++ flat_map text.term_text (map view.term (drop l.term-index l.terms))
    ≡ string_bytes l.initial.out ++ flat_map text.term_text (map view.term l.terms)
