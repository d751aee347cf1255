use Rattle.std.proofs.Common.{◌≡◌}
use Rattle.std.specs.Prelude.{codes}
use Rattle.launch_text.specs.LaunchWords.{several}
use Rattle.launch_text.specs.HeadReading.{define_line, define_lines}
use Rattle.launch_text.specs.Answers.{cursor}
use Rattle.launch_text.specs.View.{defines}
use Rattle.launch_text.proofs.define.define_lines.Given as goal

abbrev pub invariant-lines : goal.invariant-lines
invariant-lines l = define_lines (cursor l.at) ≡ several (codes "define") define_line l.room (defines l.defines) (cursor l.rest)

abbrev pub decreases-lines : goal.decreases-lines
decreases-lines l = l.room
