use Rattle.std.proofs.Common.{◌≡◌, []}
use Rattle.words.specs.View.{kind}
use Rattle.launch_text.specs.LaunchReading.{list_at}
use Rattle.launch_text.specs.Answers.{cursor}
use Rattle.launch_text.specs.View as view
use Rattle.launch_text.proofs.launches.list.Given as goal

abbrev pub invariant-words : goal.invariant-words
invariant-words l = list_at (kind l.kind) l.room [] (cursor l.at) ≡ list_at (kind l.kind) l.left (view.words l.words) (cursor l.rest)

abbrev pub decreases-words : goal.decreases-words
decreases-words l = l.left
