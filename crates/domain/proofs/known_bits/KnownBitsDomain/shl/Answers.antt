use Rattle.std.proofs.Common.{◌*◌, ◌%◌, ◌^◌, ap, ◌∙◌}
use Rattle.std.specs.Int.RustNames.{bit_or}
use Rattle.domain.specs.KnownBitsLaws.{shifted-under}
use Rattle.domain.proofs.Masking.{shifted_known}
use Rattle.domain.proofs.known_bits.KnownBitsDomain.shl.Goals as goal

pub invariant_of-result : goal.invariant_of-result
invariant_of-result c =
    rw (c.ones.ensures, shifted_known c.self.inside.known c.args.by c.requires)
    (shifted-under c.self.inside.value c.args.by (record { known = c.self.inside.known; value = c.self.inside.value }) c.self.invariant)

pub returns : goal.returns
returns c =
    rw (← c.self.view_is)
    (ap (λ n. record { known = n; value = (c.self.inside.value * 2 ^ c.args.by) % 2 ^ 32 })
    (ap (bit_or ((c.self.inside.known * 2 ^ c.args.by) % 2 ^ 32)) c.ones.ensures ∙ shifted_known c.self.inside.known c.args.by c.requires))
