use Rattle.std.proofs.Common.{◌≡◌}
use Rattle.linear.specs.Products.{unpacked}
use Rattle.facts.specs.View.{known_seen}
use Rattle.walk_trees.specs.Held as held
use Rattle.path_steps.specs.View.{followed}
use Rattle.path_steps.proofs.held.element_of_product.Given as goal

abbrev pub invariant-loop-most : goal.invariant-loop-most
invariant-loop-most g l = held.elements_from g.D.Domain (held.element_of_own g.D.Domain (known_seen l.setting.known) (followed l.path).state.held) l.so_far (unpacked l.most l.left) ≡ held.elements_of_factors g.D.Domain (held.element_of_own g.D.Domain (known_seen l.setting.known) (followed l.path).state.held) (unpacked 3 l.number)

abbrev pub decreases-loop-most : goal.decreases-loop-most
decreases-loop-most g l = l.most
