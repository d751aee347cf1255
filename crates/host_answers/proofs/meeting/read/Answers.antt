use Rattle.std.proofs.Common.{◌≡◌, Ok, subst}
use Rattle.kernel_reading.specs.Kernels.{read}
use Rattle.kernel_reading.specs.Answers.{kernel_seen}
use Rattle.host_answers.specs.Options.{devices_by, source_for}
use Rattle.host_answers.proofs.meeting.read.Goals as goal

pub returns-in-Err-read_conditions_as-clause-refused : goal.returns-in-Err-read_conditions_as-clause-refused
returns-in-Err-read_conditions_as-clause-refused c =
    let t = c.in-Ok.typed in
    (t, subst (λ x. read x ≡ Ok (kernel_seen t)) c.source_of-source.ensures c.in-Ok.ensures, c.in-Err-read_conditions_as.ensures.value)

pub returns-in-Err-shapes_of-clause-refused : goal.returns-in-Err-shapes_of-clause-refused
returns-in-Err-shapes_of-clause-refused c =
    let t = c.in-Ok.typed in
    (t, subst (λ x. read x ≡ Ok (kernel_seen t)) c.source_of-source.ensures c.in-Ok.ensures, tt)
