use Rattle.std.proofs.Common.{refl}
use Rattle.std.specs.Prelude.{pos, ◌+ℤ◌}
use Rattle.domain.proofs.Masking.{lowest_is}
use Rattle.domain.proofs.known_bits.KnownBitsDomain.add.Goals as goal

pub returns : goal.returns
returns c =
    rw (← c.self.view_is, ← c.other.view_is)
    (lowest_is c.lowest.result c.low.result _ _ (pos c.self.inside.value +ℤ pos c.other.inside.value) c.lowest.ensures c.low.ensures.value c.low.ensures.within refl)
