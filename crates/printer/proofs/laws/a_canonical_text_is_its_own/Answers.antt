use Rattle.printer.proofs.ReadBack.{printed-again}
use Rattle.printer.proofs.laws.a_canonical_text_is_its_own.Goals as goal

pub returns : goal.returns
returns c = printed-again
