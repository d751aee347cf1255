use Rattle.std.proofs.Common.{◌∙◌}
use Rattle.lanes.proofs.Mirroring.{lowered-together}
use Rattle.lanes.proofs.Whole.{safe-together}
use Rattle.lanes.proofs.laws.lane_code_is_by_rounds.Goals as goal

pub returns : goal.returns
returns c = λ cs s exact bound g low high full hg fits num within p kept. lowered-together s bound g fits within ∙ safe-together cs s exact bound g low high full hg num p kept
