use Rattle.parser.proofs.UniqueKernels.{kernel-unique}
use Rattle.parser.proofs.laws.lexemes_have_one_kernel.Goals as goal

pub returns : goal.returns
returns c = kernel-unique
