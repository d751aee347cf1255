use Rattle.std.proofs.Common.{refl, subst}
use Rattle.kernel_reading.specs.Kernels.{text_under}
use Rattle.kernel_reading.specs.Sources.{reading as reading_seen}
use Rattle.telling.specs.ProvingVerdicts.{Proves}
use Rattle.program.specs.Running.{IsOf, kernel_read}
use Rattle.program.proofs.one_run.searched.Goals as goal

pub returns-clause-reads : goal.returns-clause-reads
returns-clause-reads g c =
    let k = c.in_ok-kernel.kernel.items in
    let o = c.in_ok-conditions.conditions.items in
    let d = reading_seen c.args.search.reading in (
      k,
      o,
      (c.text_of.new.files, subst (λ n. g.F.Files.gives c.args.files.now c.args.search.kernel.now n k c.text_of.new.files) c.kernel_limit.ensures c.in_ok-kernel.ensures.given, subst (λ n. IsOf (g.F.Files.contents c.args.files.now) (kernel_read n c.args.search.kernel.now k)) c.kernel_limit.ensures c.in_ok-kernel.ensures.text, (c.text_of-2.new.files, c.in_ok-conditions.ensures.given, c.in_ok-conditions.ensures.text, refl)),
      subst (λ t. Proves c.args.search.is_wide c.prove_texts.result c.args.search.workers (text_under d o k) t) c.deref-3.ensures.value
          (subst (λ t. Proves c.args.search.is_wide c.prove_texts.result c.args.search.workers (text_under d o t) c.deref-3.result.now) c.deref-2.ensures.value
          (subst (λ t. Proves c.args.search.is_wide c.prove_texts.result c.args.search.workers (text_under d t c.deref-2.result.now) c.deref-3.result.now) c.deref.ensures.value c.prove_texts.ensures)),
    )
