use Rattle.kernel_reading.specs.Sources.{source}
use Rattle.std.proofs.Common.{◌≡◌, ap, ◌∙◌, subst}
use Rattle.std.specs.Prelude.{Ok}
use Rattle.std.specs.String.{string_bytes}
use Rattle.semantics.specs.Launch.{Fits}
use Rattle.launch_text.specs.LaunchReading.{launch_of}
use Rattle.launch_text.specs.LaunchText.{buffers_text}
use Rattle.kernel_names.specs.View.{names_seen}
use Rattle.core_code.specs.View.{kernel as core}
use Rattle.launch.specs.View.{conditions, launch}
use Rattle.launch_text.specs.View as reading
use Rattle.launch_text.specs.View.{lined}
use Rattle.kernel_reading.specs.Answers.{kernel_seen}
use Rattle.cert_check.specs.View.{typed_of, kept}
use Rattle.telling.proofs.Meanings.{is_safe, is_run}
use Rattle.launch_text.specs.Answers as texts
use Rattle.telling.proofs.Refusing.{unaccepted_run, unreckoned_run, unread_run, not_run}
use Rattle.telling.proofs.run_texts.Goals as goal

pub returns-in-Ok-write_buffers : goal.returns-in-Ok-write_buffers
returns-in-Ok-write_buffers g c =
    let a = c.in-Ok.accepted in
    let t = typed_of a in
    let l = c.in-Ok-read_launch.launch in
    let b = c.in-Ok-run.buffers in
    let k = (source c.args.texts.kernel) in (
      kernel_seen t,
      conditions (kept a),
      launch l,
      reading.buffers b.words,
      is_safe c.args.is_wide k c.args.texts.conditions.now t (kept a) (c.bytes_are_the_text_of_what_is_read.ensures k (kernel_seen t) c.in-Ok.ensures.kernel) (c.what_is_read_of_conditions_is_their_text.ensures c.args.is_wide (names_seen t.0).parameters c.args.texts.conditions.now (lined (kept a)) c.in-Ok.ensures.conditions) c.in-Ok.ensures.headline,
      is_run t (kept a) c.args.launch.now c.into_bytes.result.items l b
          (c.what_is_read_of_a_launch_is_its_text.ensures (names_seen t.0).parameters c.args.launch.now (reading.launch l)
          (subst (λ t. launch_of (names_seen t.0).parameters c.args.launch.now ≡ Ok (reading.launch l)) c.typed.ensures.value c.in-Ok-read_launch.ensures.value))
          (subst (λ t. Fits (core t.1) (launch l)) c.typed.ensures.value c.in-Ok-read_launch.ensures.fit)
          c.in-Ok-run.ensures.meets
          c.in-Ok-run.ensures.defined
          c.in-Ok-run.ensures.value
          c.in-Ok-run.ensures.every
          c.in-Ok-run.ensures.kinds
          (ap (λ v. v.items) c.into_bytes.ensures.value ∙ subst (λ t. string_bytes c.in-Ok-write_buffers.text ≡ buffers_text (names_seen t.0).parameters (reading.buffers b.words)) c.typed-2.ensures.value c.in-Ok-write_buffers.ensures),
    )

pub returns-in-Err : goal.returns-in-Err
returns-in-Err g c =
    let t = c.args.texts in
    unaccepted_run c.args.is_wide (source t.kernel) t.conditions.now t.certificate.now c.args.launch.now c.args.workers c.unaccepted.result c.in-Err.error c.in-Err.ensures.refused c.unaccepted.ensures

pub returns-in-Err-can_run_accepted : goal.returns-in-Err-can_run_accepted
returns-in-Err-can_run_accepted g c =
    let t = typed_of c.in-Ok.accepted in
    let x = c.args.texts in
    let safe = is_safe c.args.is_wide (source x.kernel) x.conditions.now t (kept c.in-Ok.accepted) (c.bytes_are_the_text_of_what_is_read.ensures (source x.kernel) (kernel_seen t) c.in-Ok.ensures.kernel) (c.what_is_read_of_conditions_is_their_text.ensures c.args.is_wide (names_seen t.0).parameters x.conditions.now (lined (kept c.in-Ok.accepted)) c.in-Ok.ensures.conditions) c.in-Ok.ensures.headline in
    unreckoned_run c.args.is_wide (source x.kernel) x.conditions.now x.certificate.now c.args.launch.now c.args.workers c.not_run.result c.in-Err-can_run_accepted.error (kernel_seen t) (conditions (kept c.in-Ok.accepted)) safe c.in-Err-can_run_accepted.ensures.err c.not_run.ensures

pub returns-in-Err-read_launch : goal.returns-in-Err-read_launch
returns-in-Err-read_launch g c =
    let t = typed_of c.in-Ok.accepted in
    let x = c.args.texts in
    let safe = is_safe c.args.is_wide (source x.kernel) x.conditions.now t (kept c.in-Ok.accepted) (c.bytes_are_the_text_of_what_is_read.ensures (source x.kernel) (kernel_seen t) c.in-Ok.ensures.kernel) (c.what_is_read_of_conditions_is_their_text.ensures c.args.is_wide (names_seen t.0).parameters x.conditions.now (lined (kept c.in-Ok.accepted)) c.in-Ok.ensures.conditions) c.in-Ok.ensures.headline in
    unread_run c.args.is_wide (source x.kernel) x.conditions.now x.certificate.now c.args.launch.now c.args.workers c.unread.result c.in-Err-read_launch.error (kernel_seen t) (conditions (kept c.in-Ok.accepted)) safe
    (subst (λ t. texts.Refuses c.in-Err-read_launch.error (launch_of (names_seen t.0).parameters c.args.launch.now)) c.typed.ensures.value c.in-Err-read_launch.ensures.value) c.unread.ensures

pub returns-in-Err-run : goal.returns-in-Err-run
returns-in-Err-run g c =
    let t = typed_of c.in-Ok.accepted in
    let x = c.args.texts in
    let safe = is_safe c.args.is_wide (source x.kernel) x.conditions.now t (kept c.in-Ok.accepted) (c.bytes_are_the_text_of_what_is_read.ensures (source x.kernel) (kernel_seen t) c.in-Ok.ensures.kernel) (c.what_is_read_of_conditions_is_their_text.ensures c.args.is_wide (names_seen t.0).parameters x.conditions.now (lined (kept c.in-Ok.accepted)) c.in-Ok.ensures.conditions) c.in-Ok.ensures.headline in
    not_run c.args.is_wide (source x.kernel) x.conditions.now x.certificate.now c.args.launch.now c.not_run-in-Err-run.result c.in-Err-run.error (kernel_seen t) (kept c.in-Ok.accepted) c.in-Ok-read_launch.launch c.args.workers safe
    (subst (λ t. launch_of (names_seen t.0).parameters c.args.launch.now ≡ Ok (reading.launch c.in-Ok-read_launch.launch)) c.typed.ensures.value c.in-Ok-read_launch.ensures.value) c.in-Err-run.ensures.answers c.not_run-in-Err-run.ensures
