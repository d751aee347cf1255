use Rattle.std.proofs.Common.{◌-◌, ◌^◌, ap, ◌∙◌}
use Rattle.std.specs.Int.RustNames.{bit_and}
use Rattle.std.proofs.lemmas.Nat.{and_mask}
use Rattle.domain.proofs.Masking.{masked_twice}
use Rattle.domain.proofs.known_bits.lowest.Goals as goal

pub invariant_of-result : goal.invariant_of-result
invariant_of-result c = masked_twice c.args.word c.ones-known.result

pub returns : goal.returns
returns c =
    ap (λ k. record { known = k; value = bit_and c.args.word k }) c.ones-known.ensures
    ∙ ap (λ v. record { known = 2 ^ c.args.count - 1; value = v }) (and_mask c.args.word c.args.count)
