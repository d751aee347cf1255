use Rattle.std.proofs.Common.{◌≡◌, drop}
use Rattle.linear.specs.Forms.{form}
use Rattle.linear.specs.Terms.{terms}
use Rattle.facts.specs.View.{known_seen}
use Rattle.walk_trees.specs.Held.{narrow, narrow_terms}
use Rattle.path_steps.specs.Paths.{with_held}
use Rattle.path_steps.specs.View.{followed}
use Rattle.path_steps.proofs.narrowing.narrow.Given as goal

abbrev pub invariant-loop-term : goal.invariant-loop-term
invariant-loop-term g l = with_held (followed l.path) (narrow_terms g.D.Domain (known_seen l.setting.known) (form l.form) (terms (drop l.term-index l.term-items)) (followed l.path).state.held) ≡ with_held (followed l.initial.path) (narrow g.D.Domain (known_seen l.setting.known) (form l.form) (followed l.initial.path).state.held)
