use Rattle.std.proofs.Common.{[], ◌∷◌, refl, subst}
use Rattle.std.specs.Prelude.{None}
use Rattle.kernel_reading.specs.Kernels.{text_under}
use Rattle.kernel_reading.specs.Sources.{reading as reading_seen}
use Rattle.telling.specs.Verdicts.{Runs}
use Rattle.program.specs.Running as running
use Rattle.program.specs.Running.{limit_by, kernel_read, conditions_read, certificate_read, launch_read}
use Rattle.program.proofs.Verdicts.{reads-more}
use Rattle.program.proofs.one_run.ran.Goals as goal

pub returns-clause-verdict : goal.returns-clause-verdict
returns-clause-verdict g c = λ ws command names last count.
    let found = c.in_ok-found.found in
    let d = reading_seen c.args.names.reading in
    let kernel = text_under d found.conditions.items found.kernel.items in
    let launch = c.in_ok-launch.launch.items in
    let k = c.args.names.kernel.now in
    let o = c.args.names.conditions.now in
    let p = c.args.names.certificate.now in
    let three = kernel_read (limit_by d) k found.kernel.items ∷ conditions_read o found.conditions.items ∷ certificate_read p found.certificate.items ∷ [] in
    record {
      request = running.Run k o p c.args.launch.now c.args.workers c.args.names.is_wide d;
      texts = record { kernel = found.kernel.items; conditions = found.conditions.items; certificate = found.certificate.items; launch = launch };
      saved = None;
      asked = (command, names.kernel, names.conditions, names.certificate, last, count, names.wide, names.reading);
      done = (reads-more g.F.Files.contents g.F.Files.gives c.args.files.now c.texts_of.new.files c.text_of.new.files three (launch_read c.args.launch.now launch) c.in_ok-found.ensures.reads c.in_ok-launch.ensures.given c.in_ok-launch.ensures.text);
      may_write = refl;
      is_told = (subst (λ t. Runs c.args.names.is_wide c.run_texts.result c.args.workers kernel found.conditions.items found.certificate.items t) c.deref.ensures.value
          (subst (λ t. Runs c.args.names.is_wide c.run_texts.result c.args.workers kernel found.conditions.items t c.deref.result.now) c.texts-texts.ensures.certificate
          (subst (λ t. Runs c.args.names.is_wide c.run_texts.result c.args.workers kernel t c.texts-texts.result.certificate.now c.deref.result.now) c.texts-texts.ensures.conditions
          (subst (λ t. Runs c.args.names.is_wide c.run_texts.result c.args.workers t c.texts-texts.result.conditions.now c.texts-texts.result.certificate.now c.deref.result.now) c.texts-texts.ensures.kernel c.run_texts.ensures))));
    }
