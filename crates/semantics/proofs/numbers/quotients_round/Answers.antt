use Rattle.semantics.proofs.Integers.{divided}
use Rattle.semantics.proofs.numbers.quotients_round.Goals as goal

pub returns : goal.returns
returns c = divided
