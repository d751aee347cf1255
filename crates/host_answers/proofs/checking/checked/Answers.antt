use Rattle.std.proofs.Common.{◌≡◌, true, Ok, refl, sym, ◌∙◌, subst}
use Rattle.kernel_reading.specs.Kernels.{read}
use Rattle.kernel_reading.specs.Answers.{kernel_seen}
use Rattle.kernel_names.specs.View.{names_seen}
use Rattle.launch_text.specs.View.{lined}
use Rattle.cert_check.specs.Refusing.{RefusesBy}
use Rattle.cert_check.specs.View.{typed_of, kept}
use Rattle.host_answers.specs.Options.{devices_by, source_for}
use Rattle.host_answers.proofs.Numbers.{of_check}
use Rattle.host_answers.proofs.Telling.{safe}
use Rattle.host_answers.proofs.checking.checked.Goals as goal

pub returns-in-Ok-clause-accepted : goal.returns-in-Ok-clause-accepted
returns-in-Ok-clause-accepted c =
    let d = devices_by c.args.options in
    let s = source_for d c.args.kernel.now c.args.conditions.now in
    let t = typed_of c.in-Ok.accepted in
    let of_kernel : read s ≡ Ok (kernel_seen t) = subst (λ x. read x ≡ Ok (kernel_seen t)) c.source_of-source.ensures c.in-Ok.ensures.kernel in
    λ zero. safe d c.args.kernel.now c.args.conditions.now t (kept c.in-Ok.accepted) (record { of_kernel = of_kernel; of_conditions = c.in-Ok.ensures.conditions })
    (c.bytes_are_the_text_of_what_is_read.ensures s (kernel_seen t) of_kernel)
    (c.what_is_read_of_conditions_is_their_text.ensures true (names_seen t.0).parameters c.args.conditions.now (lined (kept c.in-Ok.accepted)) c.in-Ok.ensures.conditions)
    c.in-Ok.ensures.headline

pub returns-in-Err-clause-accepted : goal.returns-in-Err-clause-accepted
returns-in-Err-clause-accepted c = λ zero. absurd (of_check c.in-Err.error (sym c.answer_of.ensures.number ∙ zero))

pub returns-in-Err-clause-refused : goal.returns-in-Err-clause-refused
returns-in-Err-clause-refused c = λ some.
    let refused = subst (λ x. RefusesBy true c.in-Err.error x c.args.conditions.now c.args.certificate.now) c.source_of-source.ensures c.in-Err.ensures.refused in
    (c.in-Err.error, refused, c.answer_of.ensures)
