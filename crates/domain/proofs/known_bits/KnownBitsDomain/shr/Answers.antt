use Rattle.std.proofs.Common.{◌/◌, ◌^◌, ap, sym, ◌∙◌}
use Rattle.std.proofs.lemmas.Nat.{and_shr}
use Rattle.domain.proofs.known_bits.KnownBitsDomain.shr.Goals as goal

pub invariant_of-result : goal.invariant_of-result
invariant_of-result c = sym (and_shr c.self.inside.value c.self.inside.known c.args.by) ∙ ap (λ n. n / 2 ^ c.args.by) c.self.invariant
