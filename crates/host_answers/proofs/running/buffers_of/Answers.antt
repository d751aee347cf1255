use Rattle.std.proofs.Common.{◌≡◌, true, Ok, inl, inr, ap, sym, ◌∙◌, subst}
use Rattle.std.specs.String.{string_bytes}
use Rattle.semantics.specs.Launch.{Fits}
use Rattle.core_code.specs.View.{kernel as core}
use Rattle.kernel_names.specs.View.{names_seen}
use Rattle.kernel_reading.specs.Kernels.{read}
use Rattle.kernel_reading.specs.Answers.{kernel_seen}
use Rattle.launch.specs.View.{conditions, launch}
use Rattle.launch_text.specs.LaunchReading.{launch_of}
use Rattle.launch_text.specs.LaunchText.{buffers_text}
use Rattle.launch_text.specs.Answers as texts
use Rattle.launch_text.specs.View as reading
use Rattle.launch_text.specs.View.{lined}
use Rattle.cert_check.specs.Numbers.{at_line}
use Rattle.cert_check.specs.Refusing.{RefusesBy}
use Rattle.cert_check.specs.View.{typed_of, kept}
use Rattle.executor.specs.Numbers as runs
use Rattle.executor.specs.declared.error.RunError.TheVariants.{Memory}
use Rattle.telling.proofs.Meanings.{is_safe, is_run}
use Rattle.host_answers.specs.Options.{devices_by, source_for}
use Rattle.host_answers.specs.Running.{IsNumbered}
use Rattle.host_answers.proofs.Numbers.{of_check, of_conditions, of_run}
use Rattle.host_answers.proofs.running.buffers_of.Goals as goal

pub returns-in-Ok-write_buffers-clause-ran : goal.returns-in-Ok-write_buffers-clause-ran
returns-in-Ok-write_buffers-clause-ran c =
    let a = c.in-Ok.accepted in
    let t = typed_of a in
    let l = c.in-Ok-read_launch.launch in
    let b = c.in-Ok-run_here.buffers in
    let s = source_for (devices_by c.args.options) c.args.kernel.now c.args.conditions.now in
    let of_kernel = subst (λ x. read x ≡ Ok (kernel_seen t)) c.source_of-source.ensures c.in-Ok.ensures.kernel in (
      kernel_seen t,
      conditions (kept a),
      launch l,
      reading.buffers b.words,
      is_safe true s c.args.conditions.now t (kept a) (c.bytes_are_the_text_of_what_is_read.ensures s (kernel_seen t) of_kernel) (c.what_is_read_of_conditions_is_their_text.ensures true (names_seen t.0).parameters c.args.conditions.now (lined (kept a)) c.in-Ok.ensures.conditions) c.in-Ok.ensures.headline,
      is_run t (kept a) c.args.launch.now c.into_bytes.result.items l b
          (c.what_is_read_of_a_launch_is_its_text.ensures (names_seen t.0).parameters c.args.launch.now (reading.launch l)
          (subst (λ t. launch_of (names_seen t.0).parameters c.args.launch.now ≡ Ok (reading.launch l)) c.typed.ensures.value c.in-Ok-read_launch.ensures.value))
          (subst (λ t. Fits (core t.1) (launch l)) c.typed.ensures.value c.in-Ok-read_launch.ensures.fit)
          c.in-Ok-run_here.ensures.meets
          c.in-Ok-run_here.ensures.defined
          c.in-Ok-run_here.ensures.value
          c.in-Ok-run_here.ensures.every
          c.in-Ok-run_here.ensures.kinds
          (ap (λ v. v.items) c.into_bytes.ensures.value ∙ subst (λ t. string_bytes c.in-Ok-write_buffers.text ≡ buffers_text (names_seen t.0).parameters (reading.buffers b.words)) c.typed-2.ensures.value c.in-Ok-write_buffers.ensures),
    )

pub returns-in-Err-clause-refused : goal.returns-in-Err-clause-refused
returns-in-Err-clause-refused c =
    let refused = subst (λ x. RefusesBy true c.in-Err.error x c.args.conditions.now c.args.certificate.now) c.source_of-source.ensures c.in-Err.ensures.refused in
    inl (c.in-Err.error, refused, c.answer_of.ensures)

pub returns-in-Err-clause-numbered : goal.returns-in-Err-clause-numbered
returns-in-Err-clause-numbered c = λ zero. absurd (of_check c.in-Err.error (sym c.answer_of.ensures.number ∙ zero))

pub returns-in-Err-can_run_accepted-clause-refused : goal.returns-in-Err-can_run_accepted-clause-refused
returns-in-Err-can_run_accepted-clause-refused c =
    let a = c.in-Ok.accepted in
    let t = typed_of a in
    let s = source_for (devices_by c.args.options) c.args.kernel.now c.args.conditions.now in
    let of_kernel = subst (λ x. read x ≡ Ok (kernel_seen t)) c.source_of-source.ensures c.in-Ok.ensures.kernel in
    let safe = is_safe true s c.args.conditions.now t (kept a) (c.bytes_are_the_text_of_what_is_read.ensures s (kernel_seen t) of_kernel) (c.what_is_read_of_conditions_is_their_text.ensures true (names_seen t.0).parameters c.args.conditions.now (lined (kept a)) c.in-Ok.ensures.conditions) c.in-Ok.ensures.headline in
    let why = c.in-Err-can_run_accepted.ensures.err in
    let answer = subst (λ x. IsNumbered (runs.error_number x) (at_line (runs.error_line x)) c.not_run.result) why.1 c.not_run.ensures in
    inr (inl (kernel_seen t, kept a, safe, why.0, answer))

pub returns-in-Err-can_run_accepted-clause-numbered : goal.returns-in-Err-can_run_accepted-clause-numbered
returns-in-Err-can_run_accepted-clause-numbered c = λ zero. absurd (of_run c.in-Err-can_run_accepted.error (sym c.not_run.ensures.number ∙ zero))

pub returns-in-Err-read_launch-clause-refused : goal.returns-in-Err-read_launch-clause-refused
returns-in-Err-read_launch-clause-refused c =
    let a = c.in-Ok.accepted in
    let t = typed_of a in
    let s = source_for (devices_by c.args.options) c.args.kernel.now c.args.conditions.now in
    let of_kernel = subst (λ x. read x ≡ Ok (kernel_seen t)) c.source_of-source.ensures c.in-Ok.ensures.kernel in
    let safe = is_safe true s c.args.conditions.now t (kept a) (c.bytes_are_the_text_of_what_is_read.ensures s (kernel_seen t) of_kernel) (c.what_is_read_of_conditions_is_their_text.ensures true (names_seen t.0).parameters c.args.conditions.now (lined (kept a)) c.in-Ok.ensures.conditions) c.in-Ok.ensures.headline in
    let e = c.in-Err-read_launch.error in
    let why = subst (λ t. texts.Refuses e (launch_of (names_seen t.0).parameters c.args.launch.now)) c.typed.ensures.value c.in-Err-read_launch.ensures.value in
    inr (inr (inl (e, kernel_seen t, kept a, safe, why, c.unread.ensures)))

pub returns-in-Err-read_launch-clause-numbered : goal.returns-in-Err-read_launch-clause-numbered
returns-in-Err-read_launch-clause-numbered c = λ zero. absurd (of_conditions c.in-Err-read_launch.error (sym c.unread.ensures.number ∙ zero))

pub returns-in-Err-run_here-clause-refused : goal.returns-in-Err-run_here-clause-refused
returns-in-Err-run_here-clause-refused c =
    let a = c.in-Ok.accepted in
    let t = typed_of a in
    let s = source_for (devices_by c.args.options) c.args.kernel.now c.args.conditions.now in
    let of_kernel = subst (λ x. read x ≡ Ok (kernel_seen t)) c.source_of-source.ensures c.in-Ok.ensures.kernel in
    let safe = is_safe true s c.args.conditions.now t (kept a) (c.bytes_are_the_text_of_what_is_read.ensures s (kernel_seen t) of_kernel) (c.what_is_read_of_conditions_is_their_text.ensures true (names_seen t.0).parameters c.args.conditions.now (lined (kept a)) c.in-Ok.ensures.conditions) c.in-Ok.ensures.headline in
    let l = c.in-Ok-read_launch.launch in
    let read_to = subst (λ t. launch_of (names_seen t.0).parameters c.args.launch.now ≡ Ok (reading.launch l)) c.typed.ensures.value c.in-Ok-read_launch.ensures.value in
    inr (inr (inr (inl (c.in-Err-run_here.error, kernel_seen t, kept a, l, safe, read_to, c.in-Err-run_here.ensures.answers, c.not_run-in-Err-run_here.ensures))))

pub returns-in-Err-run_here-clause-numbered : goal.returns-in-Err-run_here-clause-numbered
returns-in-Err-run_here-clause-numbered c = λ zero. absurd (of_run c.in-Err-run_here.error (sym c.not_run-in-Err-run_here.ensures.number ∙ zero))

pub returns-clause-refused : goal.returns-clause-refused
returns-clause-refused c = inr (inr (inr (inr c.numbered.ensures.number)))

pub returns-clause-numbered : goal.returns-clause-numbered
returns-clause-numbered c = λ zero. absurd (of_run Memory (sym c.numbered.ensures.number ∙ zero))
