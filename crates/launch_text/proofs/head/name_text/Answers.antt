use Rattle.launch_text.specs.Answers.{cursor}
use Rattle.launch_text.proofs.NameTexts.{name_utf8}
use Rattle.launch_text.proofs.head.name_text.Goals as goal

-- src/head.rt:47:9
pub returns-in_default : goal.returns-in_default
returns-in_default c = absurd (c.in_default.ensures.cases.0 (name_utf8 (cursor c.args.at) (c.in_ok-word.word.now, cursor c.in_ok-word.after) c.in_ok-word.ensures))
