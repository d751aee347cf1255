use Rattle.reduction.proofs.Whole.{defined_within}
use Rattle.reduction.proofs.result_is_defined_within.Goals as goal

pub returns : goal.returns
returns c = λ cs s bound full p kept. defined_within s bound full p kept
