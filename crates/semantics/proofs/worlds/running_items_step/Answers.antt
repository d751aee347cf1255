use Rattle.semantics.proofs.Events.{step-possible, step-running}
use Rattle.semantics.proofs.worlds.running_items_step.Goals as goal

pub returns : goal.returns
returns c = record { possible = step-possible; only = step-running }
