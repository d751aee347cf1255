use Rattle.launch_text.proofs.ConditionsForth.{conditions_forth}
use Rattle.launch_text.proofs.laws.conditions_are_read_of_their_text.Goals as goal

pub returns : goal.returns
returns c = conditions_forth
