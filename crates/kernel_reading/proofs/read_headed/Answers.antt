use Rattle.std.proofs.Common.{◌≡◌, ap, sym, subst}
use Rattle.launch_text.specs.View.{head}
use Rattle.kernel_reading.specs.Answers.{Gives}
use Rattle.kernel_reading.specs.Sources.{language, source}
use Rattle.kernel_reading.proofs.KernelReads.{headed-refused, headed-given}
use Rattle.kernel_reading.proofs.read_headed.Goals as goal

pub returns-in-Plain : goal.returns-in-Plain
returns-in-Plain c = headed-refused (head c.args.head.now) (source c.args.text) (ap language c.in-Plain.is) c.requires

pub returns-in-OpenCl : goal.returns-in-OpenCl
returns-in-OpenCl c =
    subst (λ r. Gives c.read_opencl.result r) (sym (headed-given (head c.args.head.now) (source c.args.text) (ap language c.in-OpenCl.is) c.requires)) c.read_opencl.ensures
