use Rattle.reduction.proofs.Whole.{budget_within}
use Rattle.reduction.proofs.rounds_are_within_budget.Goals as goal

pub returns : goal.returns
returns c = λ cs s bound g full hg p kept. budget_within s bound full p kept g hg
