use Rattle.semantics.proofs.Integers.{mul-add}
use Rattle.semantics.proofs.numbers.products_distribute.Goals as goal

pub returns : goal.returns
returns c = mul-add
