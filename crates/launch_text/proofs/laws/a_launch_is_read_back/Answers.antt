use Rattle.launch_text.proofs.LaunchForth.{launch_forth}
use Rattle.launch_text.proofs.laws.a_launch_is_read_back.Goals as goal

pub returns : goal.returns
returns c = launch_forth
