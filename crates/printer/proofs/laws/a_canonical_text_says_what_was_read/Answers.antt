use Rattle.printer.proofs.ReadBack.{read-says}
use Rattle.printer.proofs.laws.a_canonical_text_says_what_was_read.Goals as goal

pub returns : goal.returns
returns c = read-says
