use Rattle.semantics.proofs.Integers.{mul_assoc}
use Rattle.semantics.proofs.numbers.products_associate.Goals as goal

pub returns : goal.returns
returns c = mul_assoc
