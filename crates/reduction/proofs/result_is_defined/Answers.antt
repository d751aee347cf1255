use Rattle.reduction.proofs.Whole.{defined_lem}
use Rattle.reduction.proofs.result_is_defined.Goals as goal

pub returns : goal.returns
returns c = defined_lem
