use Rattle.launch_text.proofs.ConditionsTaken.{conditions_took}
use Rattle.launch_text.proofs.laws.what_is_read_of_conditions_is_their_text.Goals as goal

pub returns : goal.returns
returns c = conditions_took
