use Rattle.std.proofs.Common.{◌≡◌, [], map}
use Rattle.std.specs.Prelude.{codes}
use Rattle.launch_text.specs.LaunchWords.{several}
use Rattle.launch_text.specs.ConditionsReading.{content_line}
use Rattle.syntax.specs.View.{parameter}
use Rattle.launch_text.specs.Answers.{cursor}
use Rattle.launch_text.specs.View.{contents}
use Rattle.launch_text.proofs.contents.several_lines.Given as goal

abbrev pub invariant-lines : goal.invariant-lines
invariant-lines l =
    several (codes "values") (content_line (map parameter l.parameters)) 16 [] (cursor l.at) ≡ several (codes "values") (content_line (map parameter l.parameters)) l.room (contents l.contents) (cursor l.rest)

abbrev pub decreases-lines : goal.decreases-lines
decreases-lines l = l.room
