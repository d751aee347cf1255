use Rattle.std.proofs.Common.{◌≡◌, drop}
use Rattle.linear.specs.Forms.{form}
use Rattle.linear.specs.Terms.{terms}
use Rattle.facts.specs.View.{known_seen}
use Rattle.walk_trees.specs.Held.{terms_with, element_with}
use Rattle.walk_trees.specs.Seconds.{element_of_two}
use Rattle.path_steps.specs.View.{held_seen}
use Rattle.two_thread.proofs.two.element_of.Given as goal

abbrev pub invariant-loop-term : goal.invariant-loop-term
invariant-loop-term g l =
    terms_with g.D.Domain (element_of_two g.D.Domain (known_seen l.known) (held_seen l.first.news.now l.first.narrowed.now) (held_seen l.second.news.now l.second.narrowed.now)) l.so_far (terms (drop l.term-index l.term-items))
    ≡ element_with g.D.Domain (element_of_two g.D.Domain (known_seen l.known) (held_seen l.first.news.now l.first.narrowed.now) (held_seen l.second.news.now l.second.narrowed.now)) (form l.form)
