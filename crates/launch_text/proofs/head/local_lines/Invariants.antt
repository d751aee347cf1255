use Rattle.std.proofs.Common.{◌≡◌}
use Rattle.std.specs.Prelude.{codes}
use Rattle.launch_text.specs.LaunchWords.{several}
use Rattle.launch_text.specs.HeadReading.{local_line, local_lines}
use Rattle.launch_text.specs.Answers.{cursor}
use Rattle.launch_text.specs.View.{locals}
use Rattle.launch_text.proofs.head.local_lines.Given as goal

abbrev pub invariant-lines : goal.invariant-lines
invariant-lines l = local_lines (cursor l.at) ≡ several (codes "local") local_line l.room (locals l.locals) (cursor l.rest)

abbrev pub decreases-lines : goal.decreases-lines
decreases-lines l = l.room
