use Rattle.printer.proofs.BareStatements.{bare-elaborate}
use Rattle.printer.proofs.laws.elaboration_heeds_no_position.Goals as goal

pub returns : goal.returns
returns c = bare-elaborate
