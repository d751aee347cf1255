use Rattle.semantics.proofs.Events.{step-others}
use Rattle.semantics.proofs.worlds.steps_change_one_item.Goals as goal

pub returns : goal.returns
returns c = step-others
