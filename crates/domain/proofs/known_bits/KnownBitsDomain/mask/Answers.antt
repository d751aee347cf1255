use Rattle.domain.specs.KnownBitsLaws.{both-under}
use Rattle.domain.proofs.known_bits.KnownBitsDomain.mask.Goals as goal

pub invariant_of-result : goal.invariant_of-result
invariant_of-result c = rw (c.without.ensures, c.without-2.ensures) (both-under c.self.inside.value c.other.inside.value _ _ c.self.invariant c.other.invariant)
