use Rattle.std.proofs.Common.{sym, subst, ◌∙◌, true, false, rules, SFits, w64}
use Rattle.std.specs.Prelude.{pos, ◌<ℤ◌}
use Rattle.std.proofs.lemmas.Int.{to_z-of_z}
use Rattle.linear.specs.Forms.{form}
use Rattle.words.specs.View.{kind}
use Rattle.walk_trees.specs.Operators.{divided}
use Rattle.path_steps.specs.View.{followed, setting as seen}
use Rattle.path_walk.specs.OperatorSteps.{quotient_alone}
use Rattle.path_walk.proofs.Operating.{chosen, renumbered, positive_above}
use Rattle.path_walk.proofs.dividing.divided.Goals as goal

pub quotient_alone-requires : goal.quotient_alone-requires
quotient_alone-requires g c =
    let z : SFits w64 c.constant_part-number.result = search rules in
    subst (λ n. pos 0 <ℤ n) (sym (to_z-of_z w64 c.constant_part-number.result z ∙ c.constant_part-number.ensures)) (positive_above (form c.args.divisor.now) (c.requires.positive c.if-exactly.true))

pub returns-then-exactly : goal.returns-then-exactly
returns-then-exactly g c =
    let s = seen g.D.Domain c.args.setting.now in
    let x = form c.args.dividend.now in
    let y = form c.args.divisor.now in
    let z : SFits w64 c.constant_part-number.result = search rules in
    let h = renumbered (quotient_alone s (kind c.args.kind) x) _ y.constant (followed c.args.path.now) (followed c.quotient_alone.new.path) c.quotient_alone.result (to_z-of_z w64 c.constant_part-number.result z ∙ c.constant_part-number.ensures) c.quotient_alone.ensures in
    chosen (λ b. divided s b (kind c.args.kind) x y) (λ st. c.args.exactly) true (followed c.args.path.now) (followed c.quotient_alone.new.path) form c.quotient_alone.result c.if-exactly.true h

pub returns : goal.returns
returns g c =
    let s = seen g.D.Domain c.args.setting.now in
    chosen (λ b. divided s b (kind c.args.kind) (form c.args.dividend.now) (form c.args.divisor.now)) (λ st. c.args.exactly) false (followed c.args.path.now) (followed c.divided_by_form.new.path) form c.divided_by_form.result c.if-exactly.false c.divided_by_form.ensures
