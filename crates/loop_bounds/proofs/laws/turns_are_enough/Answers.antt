use Rattle.loop_bounds.proofs.Enough.{enough}
use Rattle.loop_bounds.proofs.laws.turns_are_enough.Goals as goal

pub returns : goal.returns
returns c = enough
