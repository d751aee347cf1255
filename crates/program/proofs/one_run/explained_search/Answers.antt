use Rattle.std.proofs.Common.{[], refl, subst}
use Rattle.std.specs.Prelude.{None}
use Rattle.kernel_reading.specs.Kernels.{text_under}
use Rattle.kernel_reading.specs.Sources.{reading as reading_seen}
use Rattle.telling.specs.ProvingVerdicts.{Explains}
use Rattle.program.specs.Running as running
use Rattle.program.specs.Running.{IsOf, kernel_read}
use Rattle.program.proofs.Verdicts.{is_explained}
use Rattle.program.proofs.one_run.explained_search.Goals as goal

pub returns-clause-verdict : goal.returns-clause-verdict
returns-clause-verdict g c = λ ws command kernel conditions none wide reading.
    let k = c.in_ok-kernel.kernel.items in
    let o = c.in_ok-conditions.conditions.items in
    let d = reading_seen c.args.subject.reading in
    record {
      request = running.Explain c.args.subject.kernel.now c.args.subject.conditions.now c.args.subject.is_wide d;
      texts = record { kernel = k; conditions = o; certificate = []; launch = [] };
      saved = None;
      asked = (command, kernel, conditions, none, wide, reading);
      done = (c.text_of.new.files, subst (λ n. g.F.Files.gives c.args.files.now c.args.subject.kernel.now n k c.text_of.new.files) c.kernel_limit.ensures c.in_ok-kernel.ensures.given, subst (λ n. IsOf (g.F.Files.contents c.args.files.now) (kernel_read n c.args.subject.kernel.now k)) c.kernel_limit.ensures c.in_ok-kernel.ensures.text, (c.text_of-2.new.files, c.in_ok-conditions.ensures.given, c.in_ok-conditions.ensures.text, refl));
      may_write = refl;
      is_told = (is_explained c.args.subject.is_wide (text_under d o k) o c.explain_texts.result
          (subst (λ t. Explains c.args.subject.is_wide c.explain_texts.result (text_under d o k) t) c.deref-3.ensures.value
          (subst (λ t. Explains c.args.subject.is_wide c.explain_texts.result (text_under d o t) c.deref-3.result.now) c.deref-2.ensures.value
          (subst (λ t. Explains c.args.subject.is_wide c.explain_texts.result (text_under d t c.deref-2.result.now) c.deref-3.result.now) c.deref.ensures.value c.explain_texts.ensures))));
    }
