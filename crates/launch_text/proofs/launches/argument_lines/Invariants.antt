use Rattle.std.proofs.Common.{◌≡◌, drop, map}
use Rattle.launch_text.specs.LaunchWords.{each}
use Rattle.launch_text.specs.LaunchReading.{argument_due, argument_lines}
use Rattle.syntax.specs.View.{parameter}
use Rattle.launch_text.specs.Answers.{cursor}
use Rattle.launch_text.specs.View.{words}
use Rattle.launch_text.proofs.launches.argument_lines.Given as goal

abbrev pub invariant-loop-parameter : goal.invariant-loop-parameter
invariant-loop-parameter l =
    argument_lines (map parameter l.parameters) (cursor l.at)
    ≡ each (argument_due (map parameter l.parameters)) (words l.arguments) (map parameter (drop l.parameter-index l.parameters)) (cursor l.rest)
