use Rattle.std.proofs.Common.{◌≡◌, drop, map}
use Rattle.launch_text.specs.LaunchWords.{each}
use Rattle.launch_text.specs.ConditionsReading.{length_due, length_lines}
use Rattle.syntax.specs.View.{parameter}
use Rattle.launch_text.specs.Answers.{cursor}
use Rattle.launch_text.specs.View.{lengths}
use Rattle.launch_text.proofs.conditions.length_lines.Given as goal

abbrev pub invariant-loop-parameter : goal.invariant-loop-parameter
invariant-loop-parameter l =
    length_lines l.has_products (map parameter l.parameters) (cursor l.at)
    ≡ each (length_due l.has_products (map parameter l.parameters)) (lengths l.lengths) (map parameter (drop l.parameter-index l.parameters)) (cursor l.rest)
