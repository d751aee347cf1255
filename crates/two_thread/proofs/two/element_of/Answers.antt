use Rattle.std.proofs.Common.{sym, ap, ◌∙◌, drop, ◌+◌}
use Rattle.linear.specs.Terms.{terms}
use Rattle.linear.proofs.Lists.{terms-drop, no_term}
use Rattle.facts.specs.View.{known_seen}
use Rattle.walk_trees.specs.Held.{terms_with}
use Rattle.walk_trees.specs.Seconds.{element_of_two}
use Rattle.path_steps.specs.View.{held_seen}
use Rattle.two_thread.proofs.two.element_of.Goals as goal

pub loop-term-preserved : goal.loop-term-preserved
loop-term-preserved g c =
    let items = c.terms-term-items.result.now in
    let el = element_of_two g.D.Domain (known_seen c.args.known.now) (held_seen c.args.first.news.now c.args.first.narrowed.now) (held_seen c.args.second.news.now c.args.second.narrowed.now) in
    ap (λ x. terms_with g.D.Domain el x (terms (drop (c.loop-term.term-index + 1) items))) c.with_term-so_far.ensures
    ∙ ap (terms_with g.D.Domain el c.loop-term.so_far) (sym (terms-drop items c.loop-term.term-index no_term c.loop-term-test.true))
    ∙ c.loop-term.invariant
