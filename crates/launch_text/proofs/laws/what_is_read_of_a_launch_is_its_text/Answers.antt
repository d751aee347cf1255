use Rattle.launch_text.proofs.LaunchTaken.{launch_took}
use Rattle.launch_text.proofs.laws.what_is_read_of_a_launch_is_its_text.Goals as goal

pub returns : goal.returns
returns c = launch_took
