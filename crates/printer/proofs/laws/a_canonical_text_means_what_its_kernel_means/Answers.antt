use Rattle.std.proofs.Common.{sym}
use Rattle.printer.proofs.BareHeadline.{means-the-same}
use Rattle.printer.proofs.ReadBack.{read-alike}
use Rattle.printer.proofs.laws.a_canonical_text_means_what_its_kernel_means.Goals as goal

pub returns : goal.returns
returns c = λ s k l given bound h g. means-the-same k.core l.core given bound (sym (read-alike s k l h g).core)
