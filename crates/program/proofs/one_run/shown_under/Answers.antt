use Rattle.std.proofs.Common.{[], refl, subst}
use Rattle.std.specs.Prelude.{None}
use Rattle.kernel_reading.specs.Kernels.{text_under}
use Rattle.kernel_reading.specs.Sources.{reading as reading_seen}
use Rattle.telling.specs.Showing.{Shows}
use Rattle.program.specs.Running as running
use Rattle.program.specs.Running.{IsOf, kernel_read}
use Rattle.program.proofs.one_run.shown_under.Goals as goal

pub returns-clause-verdict : goal.returns-clause-verdict
returns-clause-verdict g c = λ ws command kernel conditions opencl reading.
    let k = c.in_ok-bytes.bytes.items in
    let o = c.in_ok-said.said.items in
    let d = reading_seen c.args.reading in
    record {
      request = running.Show c.args.kernel.now c.args.conditions.now d;
      texts = record { kernel = k; conditions = o; certificate = []; launch = [] };
      saved = None;
      asked = (command, kernel, conditions, opencl, reading);
      done = (c.text_of.new.files, subst (λ n. g.F.Files.gives c.args.files.now c.args.kernel.now n k c.text_of.new.files) c.kernel_limit.ensures c.in_ok-bytes.ensures.given, subst (λ n. IsOf (g.F.Files.contents c.args.files.now) (kernel_read n c.args.kernel.now k)) c.kernel_limit.ensures c.in_ok-bytes.ensures.text, (c.text_of-2.new.files, c.in_ok-said.ensures.given, c.in_ok-said.ensures.text, refl));
      may_write = refl;
      is_told = subst (λ t. Shows c.show_text.result (text_under d o t)) c.deref-2.ensures.value
          (subst (λ t. Shows c.show_text.result (text_under d t c.deref-2.result.now)) c.deref.ensures.value c.show_text.ensures);
    }
