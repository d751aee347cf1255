use Rattle.std.proofs.Common.{sym, ap, ◌∙◌, drop, ◌+◌}
use Rattle.linear.specs.Terms.{terms}
use Rattle.linear.proofs.Lists.{terms-drop, no_term}
use Rattle.facts.specs.View.{known_seen}
use Rattle.walk_trees.specs.Held.{terms_with, element_number}
use Rattle.path_steps.specs.View.{followed}
use Rattle.path_steps.proofs.held.element_at.Goals as goal

pub loop-term-preserved : goal.loop-term-preserved
loop-term-preserved g c =
    let items = c.terms-term-items.result.now in
    let el = element_number g.D.Domain (known_seen c.args.setting.now.known) (followed c.args.path.now).state.held in
    ap (λ x. terms_with g.D.Domain el x (terms (drop (c.loop-term.term-index + 1) items))) c.with_term-so_far.ensures
    ∙ ap (terms_with g.D.Domain el c.loop-term.so_far) (sym (terms-drop items c.loop-term.term-index no_term c.loop-term-test.true))
    ∙ c.loop-term.invariant
