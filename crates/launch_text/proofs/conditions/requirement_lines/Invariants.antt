use Rattle.std.proofs.Common.{◌≡◌, [], map}
use Rattle.std.specs.Prelude.{codes}
use Rattle.launch_text.specs.LaunchWords.{several}
use Rattle.launch_text.specs.ConditionsReading.{requirement_line}
use Rattle.syntax.specs.View.{parameter}
use Rattle.launch_text.specs.Answers.{cursor}
use Rattle.launch_text.specs.View.{requirements}
use Rattle.launch_text.proofs.conditions.requirement_lines.Given as goal

abbrev pub invariant-lines : goal.invariant-lines
invariant-lines l =
    several (codes "require") (requirement_line l.has_products (map parameter l.parameters)) 16 [] (cursor l.at) ≡ several (codes "require") (requirement_line l.has_products (map parameter l.parameters)) l.room (requirements l.requirements) (cursor l.rest)

abbrev pub decreases-lines : goal.decreases-lines
decreases-lines l = l.room
