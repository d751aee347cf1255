use Rattle.semantics.proofs.Runs.{run-append, run-prefix}
use Rattle.semantics.proofs.worlds.runs_go_on.Goals as goal

pub returns : goal.returns
returns c = record { joined = run-append; prefix = run-prefix }
