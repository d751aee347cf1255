use Rattle.std.proofs.Common.{◌≡◌, sym, subst}
use Rattle.launch_text.specs.View.{head}
use Rattle.kernel_reading.specs.Answers.{Gives}
use Rattle.kernel_reading.specs.Sources.{source}
use Rattle.kernel_reading.proofs.KernelReads.{head-refused, head-taken}
use Rattle.kernel_reading.proofs.read_source.Goals as goal

pub returns-in-Ok : goal.returns-in-Ok
returns-in-Ok c = subst (λ r. Gives c.read_with.result r) (sym (head-taken (head c.in-Ok.head) (source c.args.text) c.in-Ok.ensures)) c.read_with.ensures

pub returns-in-Err : goal.returns-in-Err
returns-in-Err c = head-refused c.in-Err.error (source c.args.text) c.in-Err.ensures
