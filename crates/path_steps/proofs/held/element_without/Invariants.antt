use Rattle.std.proofs.Common.{◌≡◌, drop}
use Rattle.linear.specs.Exact.{without}
use Rattle.linear.specs.Forms.{form}
use Rattle.linear.specs.Terms.{terms}
use Rattle.facts.specs.View.{known_seen}
use Rattle.walk_trees.specs.Held.{terms_with, element_number}
use Rattle.path_steps.specs.Without.{element_without}
use Rattle.path_steps.specs.View.{followed}
use Rattle.path_steps.proofs.held.element_without.Given as goal

abbrev pub invariant-loop-term : goal.invariant-loop-term
invariant-loop-term g l = terms_with g.D.Domain (element_number g.D.Domain (known_seen l.setting.known) (followed l.path).state.held) l.so_far (without l.symbol.number (terms (drop l.term-index l.term-items))) ≡ element_without g.D.Domain (known_seen l.setting.known) (followed l.path).state.held l.symbol.number (form l.form)
