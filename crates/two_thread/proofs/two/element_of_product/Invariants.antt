use Rattle.std.proofs.Common.{◌≡◌}
use Rattle.linear.specs.Products.{unpacked}
use Rattle.facts.specs.View.{known_seen}
use Rattle.walk_trees.specs.Held.{elements_from, elements_of_factors}
use Rattle.walk_trees.specs.Seconds.{element_of_factor}
use Rattle.path_steps.specs.View.{held_seen}
use Rattle.two_thread.proofs.two.element_of_product.Given as goal

abbrev pub invariant-loop-most : goal.invariant-loop-most
invariant-loop-most g l =
    elements_from g.D.Domain (element_of_factor g.D.Domain (known_seen l.known) (held_seen l.first.news.now l.first.narrowed.now) (held_seen l.second.news.now l.second.narrowed.now)) l.so_far (unpacked l.most l.left)
    ≡ elements_of_factors g.D.Domain (element_of_factor g.D.Domain (known_seen l.known) (held_seen l.first.news.now l.first.narrowed.now) (held_seen l.second.news.now l.second.narrowed.now)) (unpacked 3 l.packed)

abbrev pub decreases-loop-most : goal.decreases-loop-most
decreases-loop-most g l = l.most
