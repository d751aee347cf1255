use Rattle.std.proofs.Common.{◌≡◌, ◌++◌, drop, map}
use Rattle.std.specs.String.{string_bytes}
use Rattle.lines.specs.Lines.{text_of_lines}
use Rattle.certificate_text.specs.Text as text
use Rattle.certificate.specs.View as view
use Rattle.certificate.proofs.part_writer.push_steps.Given as goal

abbrev pub invariant-loop-step : goal.invariant-loop-step
invariant-loop-step l = string_bytes l.out ++ text_of_lines (map text.step_line (map view.step (drop l.step-index l.steps))) ≡ string_bytes l.initial.out ++ text_of_lines (map text.step_line (map view.step l.steps))
