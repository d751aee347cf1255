use Rattle.std.proofs.Common.{sym, ap, ◌∙◌, drop, ◌+◌}
use Rattle.linear.specs.Terms.{terms}
use Rattle.linear.proofs.Lists.{terms-drop, no_term}
use Rattle.facts.specs.Elements.{with_terms}
use Rattle.facts.specs.View.{elements_seen as seen}
use Rattle.facts.proofs.elements.element_of.Goals as goal

pub loop-term-preserved : goal.loop-term-preserved
loop-term-preserved g c =
    let items = c.terms-term-items.result.now in
    let es = seen c.args.known.now c.args.first.now c.args.second.now in
    ap (λ x. with_terms g.D.Domain es x (terms (drop (c.loop-term.term-index + 1) items))) c.with_term-so_far.ensures
    ∙ ap (with_terms g.D.Domain es c.loop-term.so_far) (sym (terms-drop items c.loop-term.term-index no_term c.loop-term-test.true))
    ∙ c.loop-term.invariant
