use Rattle.std.proofs.Common.{rules, ◌∙◌, sym, refl, arith, ◌^◌, SFits, w64}
use Rattle.std.specs.Prelude.{pos, ◌+ℤ◌, ◌<ℤ◌}
use Rattle.std.proofs.lemmas.Nat.{pow_pos}
use Rattle.std.proofs.lemmas.Int.{ints, to_z-of_z}
use Rattle.walk_trees.specs.Quotients.{is_power}
use Rattle.path_walk.proofs.PowerSizes.{past_all}
use Rattle.path_walk.proofs.bit_places.is_power_with.Goals as goal

pub returns-else-number-lt4294967296 : goal.returns-else-number-lt4294967296
returns-else-number-lt4294967296 c =
    let z : SFits w64 c.args.number = search rules in
    let h = simp to_z-of_z at c.if-number-lt4294967296.false in
    let p = pow_pos c.args.lowest in
    let l : pos 4294967296 <ℤ (c.args.number +ℤ pos (2 ^ c.args.lowest)) = omega (arith, ints, h, p) in
    c.if-number-lt4294967296.false ∙ sym (past_all (is_power 31 (c.args.number +ℤ pos (2 ^ c.args.lowest))) 31 (c.args.number +ℤ pos (2 ^ c.args.lowest)) (omega arith) refl l)
