use Rattle.semantics.specs.Launch.{silent}
use Rattle.reckoned_runs.proofs.Example.{setup, loud, events, differ}
use Rattle.reckoned_runs.proofs.runs.other_kernels_may_heed_their_machine.Goals as goal

pub returns : goal.returns
returns c = (silent, loud, setup, events, differ)
