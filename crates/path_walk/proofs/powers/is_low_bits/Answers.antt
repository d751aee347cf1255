use Rattle.std.proofs.Common.{rules, ◌∙◌, sym, refl, arith, SFits, w64}
use Rattle.std.specs.Prelude.{pos, ◌+ℤ◌, ◌<ℤ◌}
use Rattle.std.proofs.lemmas.Int.{ints, to_z-of_z}
use Rattle.walk_trees.specs.Quotients.{is_power}
use Rattle.path_walk.proofs.PowerSizes.{past_all}
use Rattle.path_walk.proofs.powers.is_low_bits.Goals as goal

pub returns-else-number-lt4294967296 : goal.returns-else-number-lt4294967296
returns-else-number-lt4294967296 c =
    let z : SFits w64 c.args.number = search rules in
    let h = simp to_z-of_z at c.if-number-lt4294967296.false in
    let l : pos 4294967296 <ℤ (c.args.number +ℤ pos 1) = omega (arith, ints, h) in
    c.if-number-lt4294967296.false ∙ sym (past_all (is_power c.args.most (c.args.number +ℤ pos 1)) c.args.most (c.args.number +ℤ pos 1) c.requires refl l)
