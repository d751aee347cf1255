use Rattle.std.proofs.Common.{rules, ◌<◌, ◌^◌}
use Rattle.domain.proofs.Masking.{residue_is}
use Rattle.domain.proofs.known_bits.KnownBitsDomain.residue.Goals as goal

pub returns : goal.returns
returns c =
    let h : c.self.inside.value < 2 ^ 32 = search rules in
    rw (← c.self.view_is) (residue_is _ c.low-count.result c.ones.result h c.low-count.ensures.within c.low-count.ensures.value c.ones.ensures)
