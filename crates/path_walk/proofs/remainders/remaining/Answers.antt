use Rattle.std.proofs.Common.{sym, subst, ◌∙◌, true, false, rules, SFits, w64}
use Rattle.std.specs.Prelude.{pos, ◌<ℤ◌}
use Rattle.std.proofs.lemmas.Int.{to_z-of_z}
use Rattle.linear.specs.Forms.{form}
use Rattle.words.specs.View.{kind}
use Rattle.walk_trees.specs.Operators.{remaining}
use Rattle.path_steps.specs.View.{followed, setting as seen}
use Rattle.walk_trees.specs.Quotients.{left_by}
use Rattle.path_walk.proofs.Operating.{chosen, renumbered, positive_above}
use Rattle.path_walk.proofs.remainders.remaining.Goals as goal

pub left_by-requires : goal.left_by-requires
left_by-requires g c =
    let z : SFits w64 c.constant_part-number.result = search rules in
    subst (λ n. pos 0 <ℤ n) (sym (to_z-of_z w64 c.constant_part-number.result z ∙ c.constant_part-number.ensures)) (positive_above (form c.args.divisor.now) (c.requires.positive c.if-exactly.true))

pub returns-then-exactly : goal.returns-then-exactly
returns-then-exactly g c =
    let s = seen g.D.Domain c.args.setting.now in
    let x = form c.args.dividend.now in
    let y = form c.args.divisor.now in
    let z : SFits w64 c.constant_part-number.result = search rules in
    let h = renumbered (left_by s (kind c.args.kind) x) _ y.constant (followed c.args.path.now) (followed c.left_by.new.path) c.left_by.result (to_z-of_z w64 c.constant_part-number.result z ∙ c.constant_part-number.ensures) c.left_by.ensures in
    chosen (λ b. remaining s b (kind c.args.kind) x y) (λ st. c.args.exactly) true (followed c.args.path.now) (followed c.left_by.new.path) form c.left_by.result c.if-exactly.true h

pub returns : goal.returns
returns g c =
    let s = seen g.D.Domain c.args.setting.now in
    chosen (λ b. remaining s b (kind c.args.kind) (form c.args.dividend.now) (form c.args.divisor.now)) (λ st. c.args.exactly) false (followed c.args.path.now) (followed c.remaining_by_form.new.path) form c.remaining_by_form.result c.if-exactly.false c.remaining_by_form.ensures
