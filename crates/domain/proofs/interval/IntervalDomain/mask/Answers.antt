use Rattle.std.proofs.Common.{arith}
use Rattle.std.proofs.lemmas.Int.{ints, clamps}
use Rattle.domain.proofs.interval.IntervalDomain.mask.Goals as goal

pub between-requires : goal.between-requires
between-requires c = let h = c.are_natural.ensures.natural c.if-are_natural.true in omega (arith, ints, clamps, h.0, h.1, c.min.ensures.value)
