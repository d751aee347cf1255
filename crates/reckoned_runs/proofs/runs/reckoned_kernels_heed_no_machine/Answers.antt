use Rattle.reckoned_runs.proofs.Worlds.{runs-on}
use Rattle.reckoned_runs.proofs.runs.reckoned_kernels_heed_no_machine.Goals as goal

pub returns : goal.returns
returns c m n s es h = runs-on m n s es h
