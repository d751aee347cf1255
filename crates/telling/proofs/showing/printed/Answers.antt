use Rattle.types.specs.Scope.{Bits32}
use Rattle.reading.specs.Kernels.{text_for}
use Rattle.std.proofs.Common.{ap, ◌∙◌}
use Rattle.reading.specs.Answers.{kernel_seen}
use Rattle.telling.proofs.showing.printed.Goals as goal

pub returns-in-Ok-print : goal.returns-in-Ok-print
returns-in-Ok-print c =
    let k = kernel_seen c.in-Ok.found in
    (k, c.bytes_are_the_text_of_what_is_read.ensures (text_for Bits32 c.args.kernel.now) k c.in-Ok.ensures, ap (λ v. v.items) c.into_bytes.ensures.value ∙ c.in-Ok-print.ensures)
