use Rattle.std.proofs.Common.{sym, ◌∙◌, true, false}
use Rattle.linear.specs.Forms.{form}
use Rattle.words.specs.View.{kind}
use Rattle.walk_trees.specs.Operators.{are_from_zero, masked_by}
use Rattle.path_steps.specs.View.{followed, setting as seen}
use Rattle.path_walk.proofs.Operating.{chosen, anew}
use Rattle.path_walk.proofs.masks.masked_by.Goals as goal

pub returns-then-are_from_zero : goal.returns-then-are_from_zero
returns-then-are_from_zero g c =
    let s = seen g.D.Domain c.args.setting.now in
    let x = form c.args.left.now in
    let y = form c.args.right.now in
    let d = c.mask-element.ensures ∙ (λ i. g.D.Domain.mask_of (c.element_at.ensures i) (c.element_at-then-are_from_zero.ensures i)) in
    let h = anew s c.mask-element.result _ (followed c.args.path.now) (followed c.invent.new.path) c.invent.result d c.invent.ensures.leads in
    chosen (λ b. masked_by s b (kind c.args.kind) x y) (λ st. are_from_zero s st x y) true (followed c.args.path.now) (followed c.invent.new.path) form c.invent.result (sym c.are_from_zero.ensures ∙ c.if-are_from_zero.true) h

pub returns : goal.returns
returns g c =
    let s = seen g.D.Domain c.args.setting.now in
    let x = form c.args.left.now in
    let y = form c.args.right.now in
    let h = anew s c.any_of.result _ (followed c.args.path.now) (followed c.invent-2.new.path) c.invent-2.result c.any_of.ensures c.invent-2.ensures.leads in
    chosen (λ b. masked_by s b (kind c.args.kind) x y) (λ st. are_from_zero s st x y) false (followed c.args.path.now) (followed c.invent-2.new.path) form c.invent-2.result (sym c.are_from_zero.ensures ∙ c.if-are_from_zero.false) h
