use Rattle.std.proofs.Common.{rules, ap, sym, subst, ◌∙◌, arith, ◌^◌, SFits, w64, to_z, of_z}
use Rattle.std.specs.Prelude.{pos, ◌+ℤ◌, ◌<ℤ◌, int_div}
use Rattle.std.proofs.lemmas.Nat.{pow_pos}
use Rattle.std.proofs.lemmas.Int.{ints, to_z-of_z, quot_fits}
use Rattle.words.specs.View.{kind}
use Rattle.walk_trees.proofs.BitTests.{middle-is}
use Rattle.path_walk.proofs.BitPlaces.{run_sum}
use Rattle.path_walk.proofs.meeting.run_width.Goals as goal

pub overflow_add-result : goal.overflow_add-result
overflow_add-result c =
    let n : SFits w64 c.args.number = search rules in
    let p : SFits w64 c.power_of.result = search rules in
    let r = run_sum (kind c.args.kind) c.args.lowest c.args.number c.requires.run c.requires.within in
    let e = c.power_of.ensures.exact in
    let l = pow_pos c.args.lowest in
    simp to_z-of_z (omega (arith, ints, r.0, r.1, e, l))

pub returns-clause-exact : goal.returns-clause-exact
returns-clause-exact c =
    let b = pos (2 ^ c.args.lowest) in
    let n : SFits w64 c.args.number = search rules in
    let p : SFits w64 c.power_of.result = search rules in
    let q : SFits w64 c.power_of-2.result = search rules in
    let r = run_sum (kind c.args.kind) c.args.lowest c.args.number c.requires.run c.requires.within in
    let l = pow_pos c.args.lowest in
    let f : SFits w64 (c.args.number +ℤ b) = omega (arith, ints, r.0, r.1, l) in
    let d : SFits w64 (int_div (c.args.number +ℤ b) b) = quot_fits w64 (c.args.number +ℤ b) b f (omega (arith, ints, l)) in
    let x = to_z-of_z w64 c.args.number n in
    let y = to_z-of_z w64 c.power_of.result p ∙ c.power_of.ensures.exact in
    let z = to_z-of_z w64 c.power_of-2.result q ∙ c.power_of-2.ensures.exact in
    (λ i. to_z w64 (of_z w64 (int_div (to_z w64 (of_z w64 (x i +ℤ y i))) (z i)))) ∙ ap (λ m. to_z w64 (of_z w64 (int_div m b))) (to_z-of_z w64 (c.args.number +ℤ b) f) ∙ to_z-of_z w64 (int_div (c.args.number +ℤ b) b) d

pub returns-clause-above : goal.returns-clause-above
returns-clause-above c =
    let m = middle-is (kind c.args.kind) c.args.number c.args.lowest c.requires.run c.requires.within in
    let l = pow_pos m.wide in
    subst (λ z. pos 0 <ℤ z) (sym (returns-clause-exact c ∙ m.quotient)) (omega (arith, ints, l))
