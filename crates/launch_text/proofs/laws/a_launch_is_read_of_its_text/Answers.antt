use Rattle.launch_text.proofs.SpellingsForth.{spelling_forth}
use Rattle.launch_text.proofs.laws.a_launch_is_read_of_its_text.Goals as goal

pub returns : goal.returns
returns c = spelling_forth
