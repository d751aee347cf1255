use Rattle.launch_text.proofs.ConditionsForth.{one_meaning}
use Rattle.launch_text.proofs.laws.a_conditions_text_says_one_thing.Goals as goal

pub returns : goal.returns
returns c = one_meaning
