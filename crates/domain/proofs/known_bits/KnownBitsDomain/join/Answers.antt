use Rattle.domain.proofs.Masking.{masked_twice}
use Rattle.domain.proofs.known_bits.KnownBitsDomain.join.Goals as goal

pub invariant_of-result : goal.invariant_of-result
invariant_of-result c = masked_twice c.self.inside.value c.without-known.result
