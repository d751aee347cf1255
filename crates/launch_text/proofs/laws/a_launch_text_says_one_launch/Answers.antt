use Rattle.launch_text.proofs.SpellingsForth.{one_launch}
use Rattle.launch_text.proofs.laws.a_launch_text_says_one_launch.Goals as goal

pub returns : goal.returns
returns c = one_launch
