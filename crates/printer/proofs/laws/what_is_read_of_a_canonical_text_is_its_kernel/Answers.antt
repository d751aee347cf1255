use Rattle.printer.proofs.ReadBack.{read-alike}
use Rattle.printer.proofs.laws.what_is_read_of_a_canonical_text_is_its_kernel.Goals as goal

pub returns : goal.returns
returns c = read-alike
