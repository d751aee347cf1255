use Rattle.semantics.proofs.Logs.{applied-log}
use Rattle.semantics.proofs.worlds.logs_are_applied.Goals as goal

pub returns : goal.returns
returns c = applied-log
