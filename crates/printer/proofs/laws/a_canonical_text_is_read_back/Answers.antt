use Rattle.printer.proofs.ReadBack.{read-back}
use Rattle.printer.proofs.laws.a_canonical_text_is_read_back.Goals as goal

pub returns : goal.returns
returns c = read-back
