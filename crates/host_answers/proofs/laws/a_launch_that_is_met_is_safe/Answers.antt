use Rattle.host_answers.proofs.Joined.{safe_launches}
use Rattle.host_answers.proofs.laws.a_launch_that_is_met_is_safe.Goals as goal

pub returns : goal.returns
returns c = λ d kernel conditions r gs one two. safe_launches d kernel conditions r gs one two
