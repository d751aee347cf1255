use Rattle.std.proofs.Common.{ap, sym, ◌∙◌, ◌&&◌, rules, SFits, w64}
use Rattle.std.specs.Prelude.{pos, int_lt}
use Rattle.std.proofs.lemmas.Int.{to_z-of_z}
use Rattle.linear.proofs.Lists.{fits_signed}
use Rattle.path_steps.proofs.tests.is_negative.Goals as goal

pub returns : goal.returns
returns c =
    let f : SFits w64 c.args.number = search rules in
    ap (λ z. int_lt z (pos 0)) (to_z-of_z w64 c.args.number f) ∙ ap (λ b. b && int_lt c.args.number (pos 0)) (sym (fits_signed c.args.number f))
