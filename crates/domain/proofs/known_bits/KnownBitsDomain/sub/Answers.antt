use Rattle.std.proofs.Common.{rules, ◌<◌, ◌^◌}
use Rattle.domain.proofs.Masking.{lowest_is, difference_is}
use Rattle.domain.proofs.known_bits.KnownBitsDomain.sub.Goals as goal

pub returns : goal.returns
returns c =
    let h : c.other.inside.value < 2 ^ 32 = search rules in
    rw (← c.self.view_is, ← c.other.view_is)
    (lowest_is c.lowest.result c.low.result _ _ _ c.lowest.ensures c.low.ensures.value c.low.ensures.within (difference_is c.self.inside.value c.other.inside.value h))
