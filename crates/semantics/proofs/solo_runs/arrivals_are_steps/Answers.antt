use Rattle.semantics.proofs.Basics.{arrived-steps}
use Rattle.semantics.proofs.solo_runs.arrivals_are_steps.Goals as goal

pub returns : goal.returns
returns c = arrived-steps
