use Rattle.kernel_reading.specs.Sources.{source}
use Rattle.kernel_reading.specs.Answers.{kernel_seen}
use Rattle.kernel_names.specs.View.{names_seen}
use Rattle.launch.specs.View.{conditions}
use Rattle.launch_text.specs.View.{lined}
use Rattle.cert_check.specs.View.{typed_of, kept}
use Rattle.telling.proofs.Meanings.{is_safe}
use Rattle.telling.proofs.ProvingMeanings.{explains_accepted}
use Rattle.telling.proofs.explained.explain_check.Goals as goal

pub returns-in-Ok-from_slice : goal.returns-in-Ok-from_slice
returns-in-Ok-from_slice c =
    let t = typed_of c.in-Ok.accepted in
    let k = source c.args.texts.kernel in
    explains_accepted c.args.is_wide k c.args.texts.conditions.now c.args.texts.certificate.now c.in-Ok-from_slice.text.items c.checked.result (
      kernel_seen t,
      conditions (kept c.in-Ok.accepted),
      is_safe c.args.is_wide k c.args.texts.conditions.now t (kept c.in-Ok.accepted) (c.bytes_are_the_text_of_what_is_read.ensures k (kernel_seen t) c.in-Ok.ensures.kernel) (c.what_is_read_of_conditions_is_their_text.ensures c.args.is_wide (names_seen t.0).parameters c.args.texts.conditions.now (lined (kept c.in-Ok.accepted)) c.in-Ok.ensures.conditions) c.in-Ok.ensures.headline,
      c.in-Ok-from_slice.ensures.items,
    ) c.checked.ensures

pub returns-in-Err : goal.returns-in-Err
returns-in-Err c =
    let t = c.args.texts in
    c.unaccepted.ensures c.args.is_wide (source t.kernel) t.conditions.now t.certificate.now c.in-Err.ensures.refused
