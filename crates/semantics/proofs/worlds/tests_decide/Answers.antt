use Rattle.semantics.proofs.Deciding.{clashes-Decides, diverges-Decides}
use Rattle.semantics.proofs.worlds.tests_decide.Goals as goal

pub returns : goal.returns
returns c = record { clash = clashes-Decides; divergence = diverges-Decides }
