use Rattle.lanes.proofs.Mirroring.{lowered-together}
use Rattle.lanes.proofs.laws.lane_code_is_run_together.Goals as goal

pub returns : goal.returns
returns c = lowered-together
