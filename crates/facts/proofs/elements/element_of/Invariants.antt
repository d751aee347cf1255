use Rattle.std.proofs.Common.{◌≡◌, drop}
use Rattle.linear.specs.Forms.{form as form_seen}
use Rattle.linear.specs.Terms.{terms}
use Rattle.facts.specs.Elements as elements
use Rattle.facts.specs.View.{elements_seen as seen}
use Rattle.facts.proofs.elements.element_of.Given as goal

abbrev pub invariant-loop-term : goal.invariant-loop-term
invariant-loop-term g l = elements.with_terms g.D.Domain (seen l.known l.first l.second) l.so_far (terms (drop l.term-index l.term-items)) ≡ elements.element_of g.D.Domain (seen l.known l.first l.second) (form_seen l.form)
