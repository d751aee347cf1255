use Rattle.launch_text.specs.View.{head}
use Rattle.reading.specs.Answers as plain_answers
use Rattle.kernel_reading.specs.Sources.{source}
use Rattle.kernel_reading.proofs.KernelReads.{plain-taken}
use Rattle.kernel_reading.proofs.read_alone.Goals as goal

pub returns-in-Ok : goal.returns-in-Ok
returns-in-Ok c = plain-taken (plain_answers.kernel_seen c.in-Ok.found) (head c.args.head.now) (source c.args.text) c.requires c.in-Ok.ensures
