use Rattle.std.proofs.Common.{◌≡◌, ap, sym, ◌∙◌, subst}
use Rattle.launch_text.specs.View.{head}
use Rattle.kernel_reading.specs.Answers.{Gives}
use Rattle.kernel_reading.specs.Sources.{language, source}
use Rattle.kernel_reading.proofs.KernelReads.{plain-refused, opencl-given, no-memory}
use Rattle.kernel_reading.proofs.read_other.Goals as goal

pub returns-in-Plain : goal.returns-in-Plain
returns-in-Plain c = plain-refused c.args.error (head c.args.head.now) (source c.args.text) (ap language c.in-Plain.is) c.requires.silent c.requires.refused

pub returns-then-is_fault : goal.returns-then-is_fault
returns-then-is_fault c =
    let s = source c.args.text in
    let d = head c.args.head.now in
    subst (λ r. Gives c.read_opencl.result r)
    (sym (opencl-given c.args.error d s (ap language c.in-OpenCl.is) c.requires.silent (sym c.is_fault.ensures ∙ c.if-is_fault.true) c.requires.refused)) c.read_opencl.ensures
