use Rattle.launch_text.proofs.ConditionsForth.{head_forth_of}
use Rattle.launch_text.proofs.laws.a_head_is_read_of_its_text.Goals as goal

pub returns : goal.returns
returns c = head_forth_of
