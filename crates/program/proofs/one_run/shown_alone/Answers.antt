use Rattle.std.proofs.Common.{[], refl, subst}
use Rattle.std.specs.Prelude.{None}
use Rattle.kernel_reading.specs.Kernels.{text_for}
use Rattle.kernel_reading.specs.Sources.{reading as reading_seen}
use Rattle.telling.specs.Showing.{Shows}
use Rattle.program.specs.Running as running
use Rattle.program.specs.Running.{IsOf, kernel_read}
use Rattle.program.proofs.one_run.shown_alone.Goals as goal

pub returns-clause-verdict : goal.returns-clause-verdict
returns-clause-verdict g c = λ ws command kernel none opencl reading.
    let k = c.in_ok-bytes.bytes.items in
    let d = reading_seen c.args.reading in
    record {
      request = running.ShowAlone c.args.kernel.now d;
      texts = record { kernel = k; conditions = []; certificate = []; launch = [] };
      saved = None;
      asked = (command, kernel, none, opencl, reading);
      done = (c.text_of.new.files, subst (λ n. g.F.Files.gives c.args.files.now c.args.kernel.now n k c.text_of.new.files) c.kernel_limit.ensures c.in_ok-bytes.ensures.given, subst (λ n. IsOf (g.F.Files.contents c.args.files.now) (kernel_read n c.args.kernel.now k)) c.kernel_limit.ensures c.in_ok-bytes.ensures.text, refl);
      may_write = refl;
      is_told = subst (λ t. Shows c.show_text.result (text_for d t)) c.deref.ensures.value c.show_text.ensures;
    }
