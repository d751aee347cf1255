use Rattle.reduction.proofs.Whole.{headline_within}
use Rattle.reduction.proofs.headline_within.Goals as goal

pub returns : goal.returns
returns c = λ cs s bound full p kept. headline_within s bound full p kept
