use Rattle.std.proofs.Common.{◌≡◌, sym, ap, subst, ◌∙◌, true, false, rules, SFits, w64}
use Rattle.std.specs.Prelude.{pos, ◌+ℤ◌}
use Rattle.std.proofs.lemmas.Int.{to_z-of_z}
use Rattle.linear.specs.Forms.{form}
use Rattle.words.specs.View.{kind}
use Rattle.walk_trees.specs.Quotients.{is_power, left_by}
use Rattle.walk_trees.specs.Operators.{is_mask, masked}
use Rattle.path_steps.specs.View.{followed, setting as seen}
use Rattle.path_walk.proofs.Operating.{chosen, renumbered}
use Rattle.path_walk.proofs.PowerSizes.{mask_power}
use Rattle.path_walk.proofs.masks.masked.Goals as goal

pub above_bits-number-requires : goal.above_bits-number-requires
above_bits-number-requires g c =
    let z : SFits w64 c.constant_part.result = search rules in
    subst (λ n. is_power 32 (n +ℤ pos 1) ≡ true) (sym (to_z-of_z w64 c.constant_part.result z ∙ c.constant_part.ensures)) (mask_power c.args.setting.now.is_wide (kind c.args.kind) (form c.args.right.now) (sym c.is_mask.ensures ∙ c.if-is_mask.true))

pub returns-then-is_mask : goal.returns-then-is_mask
returns-then-is_mask g c =
    let s = seen g.D.Domain c.args.setting.now in
    let x = form c.args.left.now in
    let y = form c.args.right.now in
    let z : SFits w64 c.constant_part.result = search rules in
    let w : SFits w64 c.above_bits-number.result = search rules in
    let d = to_z-of_z w64 c.above_bits-number.result w ∙ c.above_bits-number.ensures.exact ∙ ap (λ n. n +ℤ pos 1) (to_z-of_z w64 c.constant_part.result z ∙ c.constant_part.ensures) in
    let h = renumbered (left_by s (kind c.args.kind) x) _ (y.constant +ℤ pos 1) (followed c.args.path.now) (followed c.left_by.new.path) c.left_by.result d c.left_by.ensures in
    chosen (λ b. masked s b (kind c.args.kind) x y) (λ st. is_mask c.args.setting.now.is_wide (kind c.args.kind) y) true (followed c.args.path.now) (followed c.left_by.new.path) form c.left_by.result (sym c.is_mask.ensures ∙ c.if-is_mask.true) h

pub returns : goal.returns
returns g c =
    let s = seen g.D.Domain c.args.setting.now in
    let x = form c.args.left.now in
    let y = form c.args.right.now in
    chosen (λ b. masked s b (kind c.args.kind) x y) (λ st. is_mask c.args.setting.now.is_wide (kind c.args.kind) y) false (followed c.args.path.now) (followed c.met_or_masked.new.path) form c.met_or_masked.result (sym c.is_mask.ensures ∙ c.if-is_mask.false) c.met_or_masked.ensures
