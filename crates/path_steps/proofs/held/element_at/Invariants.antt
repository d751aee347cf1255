use Rattle.std.proofs.Common.{◌≡◌, drop}
use Rattle.linear.specs.Forms.{form}
use Rattle.linear.specs.Terms.{terms}
use Rattle.facts.specs.View.{known_seen}
use Rattle.walk_trees.specs.Held.{terms_with, element_at, element_number}
use Rattle.path_steps.specs.View.{followed}
use Rattle.path_steps.proofs.held.element_at.Given as goal

abbrev pub invariant-loop-term : goal.invariant-loop-term
invariant-loop-term g l = terms_with g.D.Domain (element_number g.D.Domain (known_seen l.setting.known) (followed l.path).state.held) l.so_far (terms (drop l.term-index l.term-items)) ≡ element_at g.D.Domain (known_seen l.setting.known) (followed l.path).state.held (form l.form)
