use Rattle.printer.proofs.ReadBack.{one-kernel}
use Rattle.printer.proofs.laws.kernels_of_one_text_are_alike.Goals as goal

pub returns : goal.returns
returns c = one-kernel
