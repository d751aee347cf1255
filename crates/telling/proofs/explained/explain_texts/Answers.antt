use Rattle.kernel_reading.specs.Sources.{source}
use Rattle.telling.proofs.ProvingMeanings.{explains_proved}
use Rattle.telling.proofs.explained.explain_texts.Goals as goal

pub returns-in-Ok : goal.returns-in-Ok
returns-in-Ok g c =
    let k = source c.args.kernel in
    let told = c.in-Ok.field-0.written.items in
    let p = c.in-Ok.field-0.certificate.items in
    explains_proved c.args.is_wide k c.args.conditions.now told c.proved.result (p, c.in-Ok.ensures.proved) c.proved.ensures
