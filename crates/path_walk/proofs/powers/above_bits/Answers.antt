use Rattle.std.proofs.Common.{rules, arith, SFits, w64}
use Rattle.std.specs.Prelude.{pos, ◌+ℤ◌}
use Rattle.std.proofs.lemmas.Int.{ints, to_z-of_z}
use Rattle.path_walk.proofs.PowerSizes.{in_range}
use Rattle.path_walk.proofs.powers.above_bits.Goals as goal

pub overflow_add-result : goal.overflow_add-result
overflow_add-result c =
    let z : SFits w64 c.args.number = search rules in
    let r = in_range 32 (c.args.number +ℤ pos 1) (omega arith) c.requires in
    simp to_z-of_z (omega (arith, ints, r.above, r.most))

pub returns-clause-exact : goal.returns-clause-exact
returns-clause-exact c =
    let z : SFits w64 c.args.number = search rules in
    let r = in_range 32 (c.args.number +ℤ pos 1) (omega arith) c.requires in
    let f : SFits w64 (c.args.number +ℤ pos 1) = omega (arith, ints, r.above, r.most) in
    simp to_z-of_z

pub returns-clause-above : goal.returns-clause-above
returns-clause-above c =
    let z : SFits w64 c.args.number = search rules in
    let r = in_range 32 (c.args.number +ℤ pos 1) (omega arith) c.requires in
    let f : SFits w64 (c.args.number +ℤ pos 1) = omega (arith, ints, r.above, r.most) in
    simp to_z-of_z r.above
