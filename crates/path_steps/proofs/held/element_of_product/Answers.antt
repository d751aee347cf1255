use Rattle.std.proofs.Common.{ap, ◌∙◌, ◌-◌, ◌/◌}
use Rattle.linear.specs.Products.{unpacked}
use Rattle.facts.specs.View.{known_seen}
use Rattle.walk_trees.specs.Held.{elements_from, element_of_own}
use Rattle.path_steps.specs.View.{followed}
use Rattle.path_steps.proofs.Digits.{next_factor}
use Rattle.path_steps.proofs.held.element_of_product.Goals as goal

pub loop-most-preserved : goal.loop-most-preserved
loop-most-preserved g c =
    let own = element_of_own g.D.Domain (known_seen c.args.setting.now.known) (followed c.args.path.now).state.held in
    ap (λ x. elements_from g.D.Domain own x (unpacked (c.loop-most.most - 1) (c.loop-most.left / 1048576))) c.mul-so_far.ensures
    ∙ next_factor g.D.Domain own c.loop-most.so_far c.element_of_own.result c.loop-most.most c.loop-most.left c.loop-most-test.true c.if-digit-eq0-2.false c.element_of_own.ensures
    ∙ c.loop-most.invariant
