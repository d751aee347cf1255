use Rattle.std.proofs.Common.{arith}
use Rattle.std.proofs.lemmas.Int.{ints, clamps}
use Rattle.domain.proofs.interval.greatest_size.Goals as goal

pub returns-clause-value : goal.returns-clause-value
returns-clause-value c = omega (arith, ints, clamps, c.max.ensures.value)
