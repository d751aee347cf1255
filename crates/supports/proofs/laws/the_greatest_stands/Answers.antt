use Rattle.supports.proofs.Standing.{greatest-stands}
use Rattle.supports.proofs.laws.the_greatest_stands.Goals as goal

pub returns : goal.returns
returns c = greatest-stands
