use Rattle.printer.proofs.ReadBack.{texts-alike}
use Rattle.printer.proofs.laws.trees_that_are_alike_have_one_text.Goals as goal

pub returns : goal.returns
returns c = texts-alike
