use Rattle.domain.proofs.Masking.{low_is}
use Rattle.domain.proofs.known_bits.low.Goals as goal

pub returns-clause-value : goal.returns-clause-value
returns-clause-value c = low_is c.trailing_ones.result c.args.known c.ranges.known.fits c.trailing_ones.ensures
