use Rattle.std.proofs.Common.{rules, ◌≡◌, ◌∙◌, ap, length, []}
use Rattle.arrival_claims.proofs.Large.{no_terms}
use Rattle.arrival_claims.proofs.dividing.is_nothing.Goals as goal

pub returns-else-is_empty-clause-other : goal.returns-else-is_empty-clause-other
returns-else-is_empty-clause-other c = λ p e z.
    let none : c.terms.result.now ≡ [] = no_terms c.terms.result.now (c.terms.ensures ∙ e) in
    let count : length c.terms.result.now ≡ 0 = ap length none in
    absurd (search rules)
