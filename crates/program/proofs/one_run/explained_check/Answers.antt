use Rattle.std.proofs.Common.{[], refl, subst}
use Rattle.std.specs.Prelude.{None}
use Rattle.kernel_reading.specs.Kernels.{text_under}
use Rattle.kernel_reading.specs.Sources.{reading as reading_seen}
use Rattle.telling.specs.ProvingVerdicts.{ExplainsCheck}
use Rattle.program.specs.Running as running
use Rattle.program.proofs.one_run.explained_check.Goals as goal

pub returns-clause-verdict : goal.returns-clause-verdict
returns-clause-verdict g c = λ ws command names.
    let found = c.in_ok-found.found in
    let d = reading_seen c.args.names.reading in
    let kernel = text_under d found.conditions.items found.kernel.items in
    record {
      request = running.ExplainCheck c.args.names.kernel.now c.args.names.conditions.now c.args.names.certificate.now c.args.names.is_wide d;
      texts = record { kernel = found.kernel.items; conditions = found.conditions.items; certificate = found.certificate.items; launch = [] };
      saved = None;
      asked = (command, names.kernel, names.conditions, names.certificate, names.wide, names.reading);
      done = c.in_ok-found.ensures.reads;
      may_write = refl;
      is_told = (subst (λ t. ExplainsCheck c.args.names.is_wide c.explain_check.result kernel found.conditions.items t) c.texts.ensures.certificate
          (subst (λ t. ExplainsCheck c.args.names.is_wide c.explain_check.result kernel t c.texts.result.certificate.now) c.texts.ensures.conditions
          (subst (λ t. ExplainsCheck c.args.names.is_wide c.explain_check.result t c.texts.result.conditions.now c.texts.result.certificate.now) c.texts.ensures.kernel c.explain_check.ensures)));
    }
