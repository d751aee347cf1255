use Rattle.semantics.proofs.Machineless.{reckoned-on}
use Rattle.semantics.proofs.machines.reckoned_terms_heed_no_machine.Goals as goal

pub returns : goal.returns
returns c = reckoned-on
